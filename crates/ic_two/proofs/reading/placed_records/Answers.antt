use Rattle.std.proofs.Common.{◌≡◌, ℕ, ◌+◌, ◌-◌, ◌<◌, ◌++◌, ◌∷◌, [], length, false, true, sym, arith}
use Rattle.std.specs.Prelude.{◌==◌}
use Rattle.std.proofs.lemmas.List.{length-append}
use Rattle.std.proofs.lemmas.Bool.Decides.{nat_tests}
use Rattle.def_two.specs.Logs.{Placed2, placed2_at}
use Rattle.ic_two.proofs.Placing.{goes_on, stops, is_done, all_push}
use Rattle.ic_two.proofs.reading.placed_records.Goals as goal

none_left : (n : ℕ) → true ≡ (n == 0) → n ≡ 0
none_left n e = grind (arith, nat_tests)

some_left : (n : ℕ) → false ≡ (n == 0) → 0 < n
some_left n e = grind (arith, nat_tests)

pub loop-rest-preserved : goal.loop-rest-preserved
loop-rest-preserved c =
    let rest = c.loop-rest.rest.now in
    let end = c.args.at + length c.args.payload.now in
    let read = c.loop-rest.records in
    let some = some_left (length rest) c.loop-rest-test.ensures in
    let r : Placed2 = (end - length rest, c.in-Some.record) in
    let e : c.push.new.self ≡ read ++ r ∷ [] = c.in_ok-push-in-Some.ensures.ok in
    let len : length c.push.new.self ≡ length read + 1 = rw e (length-append read (r ∷ [])) in
    let left : length read < length c.args.payload.now = omega (arith, some, c.loop-rest.invariant.fuel) in
    record {
      fuel = omega (arith, len, c.loop-rest.invariant.fuel, c.in-Some.ensures.less);
      same = rw (len, e) (goes_on read (length c.args.payload.now) (length read) end rest c.in-Some.record c.in-Some.more.now (placed2_at c.args.at c.args.payload.now) left some (sym c.in-Some.ensures.reads) c.loop-rest.invariant.same);
      fit = rw e (all_push read r c.loop-rest.invariant.fit c.in-Some.ensures.fit);
    }

pub returns-in-None-clause-refused : goal.returns-in-None-clause-refused
returns-in-None-clause-refused c =
    let rest = c.loop-rest.rest.now in
    let end = c.args.at + length c.args.payload.now in
    let read = c.loop-rest.records in
    let some = some_left (length rest) c.loop-rest-test.ensures in
    let left : length read < length c.args.payload.now = omega (arith, some, c.loop-rest.invariant.fuel) in
    stops read (length c.args.payload.now) (length read) end rest (placed2_at c.args.at c.args.payload.now) left some (sym c.in-None.ensures.reads) c.loop-rest.invariant.same

pub returns-clause-read : goal.returns-clause-read
returns-clause-read c =
    is_done c.loop-rest.records _ _ c.loop-rest.rest.now (placed2_at c.args.at c.args.payload.now) (none_left (length c.loop-rest.rest.now) c.loop-rest-test.ensures) c.loop-rest.invariant.same
