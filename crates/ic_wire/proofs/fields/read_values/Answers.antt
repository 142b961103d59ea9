use Rattle.std.proofs.Common.{◌≡◌, ◌+◌, ◌++◌, ◌∷◌, [], arith, length, set, take, subst, List, Some, ℤ}
use Rattle.std.specs.Int.{w64}
use Rattle.std.proofs.lemmas.Int.{to_z-of_z}
use Rattle.std.proofs.lemmas.List.{take_all, take_more_set}
use Rattle.std.proofs.lemmas.Result.{err_from_is_err_and}
use Rattle.def_log.specs.Reading.{values_at}
use Rattle.ic_wire.proofs.Loops.{values_repeat, goes_on, ends, is_done}
use Rattle.ic_wire.proofs.fields.read_values.Goals as goal

pub returns-in_err-value : goal.returns-in_err-value
returns-in_err-value c =
    let p = err_from_is_err_and c.from_residual.result c.from_residual.ensures.1 in
    rw (p.1, p.2) (ends values_repeat c.in_err-value.field-0.0 (take c.loop-i.i c.loop-i.values) (length c.args.values.now) c.loop-i.i c.loop-i.rest.now (values_at (length c.args.values.now) c.args.bytes.now) c.loop-i-test.true c.in_err-value.ensures.value c.loop-i.invariant)

pub loop-i-preserved : goal.loop-i-preserved
loop-i-preserved c =
    let xs = c.loop-i.values in
    let i = c.loop-i.i in
    let v = c.in_ok-value.value in
    let front : take (i + 1) (set xs i v) ≡ take i xs ++ v ∷ [] = take_more_set xs i v (omega (arith, c.loop-i-test.true, c.loop-i.auto.values)) in
    let on = goes_on values_repeat (take i xs) (length c.args.values.now) i c.loop-i.rest.now v c.in_ok-value.more.now (values_at (length c.args.values.now) c.args.bytes.now) c.loop-i-test.true c.in_ok-value.ensures.value c.loop-i.invariant in
    rw (to_z-of_z w64 v c.in_ok-value.ensures.fit, front) on

pub returns : goal.returns
returns c =
    let whole : take c.loop-i.i c.loop-i.values ≡ c.loop-i.values = take_all c.loop-i.i c.loop-i.values (omega (arith, c.loop-i-test.false, c.loop-i.auto.values)) in
    let read = values_at (length c.args.values.now) c.args.bytes.now in
    let Reads : List ℤ → Type 0 = λ ys. read ≡ Some (ys, c.loop-i.rest.now) in
    subst Reads whole (is_done values_repeat (take c.loop-i.i c.loop-i.values) (length c.args.values.now) c.loop-i.i c.loop-i.rest.now read c.loop-i-test.false c.loop-i.invariant)
