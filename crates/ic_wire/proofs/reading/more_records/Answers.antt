use Rattle.std.proofs.Common.{◌≡◌, ℕ, ◌+◌, ◌-◌, ◌<◌, ◌++◌, ◌∷◌, [], length, false, true, ap, ◌∙◌, arith, append_assoc}
use Rattle.std.specs.Prelude.{Err, ◌==◌}
use Rattle.std.proofs.lemmas.List.{length-append}
use Rattle.std.proofs.lemmas.Bool.Decides.{nat_tests}
use Rattle.def_log.specs.Log.{Placed, placed_at}
use Rattle.ic_wire.specs.Placed.{PlacedFits}
use Rattle.ic_wire.proofs.Placing.{goes_on, stops, is_done, bad_is, starts}
use Rattle.ic_wire.proofs.Ranges.{all_push}
use Rattle.ic_wire.proofs.reading.more_records.Goals as goal

none_left : (n : ℕ) → true ≡ (n == 0) → n ≡ 0
none_left n e = grind (arith, nat_tests)

some_left : (n : ℕ) → false ≡ (n == 0) → 0 < n
some_left n e = grind (arith, nat_tests)

pub loop-rest-init : goal.loop-rest-init
loop-rest-init c = starts c.args.before c.args.at c.args.bytes.now

pub loop-rest-preserved : goal.loop-rest-preserved
loop-rest-preserved c =
    let rest = c.loop-rest.rest.now in
    let end = c.args.at + length c.args.bytes.now in
    let on = c.loop-rest.invariant in
    let read = on.more in
    let some = some_left (length rest) c.loop-rest-test.ensures in
    let r : Placed = (end - length rest, c.in-Ok.record) in
    let len : length (read ++ r ∷ []) ≡ length read + 1 = length-append read (r ∷ []) in
    let left : length read < length c.args.bytes.now = omega (arith, some, on.fuel) in
    record {
      more = read ++ r ∷ [];
      behind = c.in_ok-push-in-Ok.ensures.ok ∙ ap (λ xs. xs ++ r ∷ []) on.behind ∙ append_assoc c.args.before read (r ∷ []);
      fuel = omega (arith, len, on.fuel, c.in-Ok.ensures.less);
      same = rw len (goes_on read (length c.args.bytes.now) (length read) end rest c.in-Ok.record c.in-Ok.more.now (placed_at c.args.at c.args.bytes.now) left some c.in-Ok.ensures.reads on.same);
      fit = all_push PlacedFits read r on.fit c.in-Ok.ensures.fit;
    }

pub returns-in-Err-Cut-clause-bad : goal.returns-in-Err-Cut-clause-bad
returns-in-Err-Cut-clause-bad c = λ place e.
    let rest = c.loop-rest.rest.now in
    let end = c.args.at + length c.args.bytes.now in
    let on = c.loop-rest.invariant in
    let read = on.more in
    let some = some_left (length rest) c.loop-rest-test.ensures in
    let left : length read < length c.args.bytes.now = omega (arith, some, on.fuel) in
    let at : end - length rest ≡ place = bad_is _ _ e in
    let none = rw c.in-Err-Cut.field-0-is at c.in-Err-Cut.ensures.reads in
    stops read (length c.args.bytes.now) (length read) end rest (placed_at c.args.at c.args.bytes.now) left some none on.same ∙ ap (λ (p : ℕ). Err p) at

pub returns-clause-records : goal.returns-clause-records
returns-clause-records c =
    let on = c.loop-rest.invariant in
    record {
      more = on.more;
      are = is_done on.more _ _ c.loop-rest.rest.now (placed_at c.args.at c.args.bytes.now) (none_left (length c.loop-rest.rest.now) c.loop-rest-test.ensures) on.same;
      fit = on.fit;
      behind = on.behind;
    }
