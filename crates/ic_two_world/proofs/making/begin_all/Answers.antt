use Rattle.std.proofs.Common.{◌∙◌, refl, sym, ap, subst, arith, List, length, ◌<◌, ◌+◌}
use Rattle.std.specs.Prelude.{slice_set, Result, IfErr}
use Rattle.def_two.specs.declared.script.TwoWhy.{TwoWhy}
use Rattle.ic_gate.specs.declared.refusals.LoadWhy.{LoadWhy}
use Rattle.ic_moves.specs.Chiefs.{openings_of}
use Rattle.ic_seat.specs.Opening.{FailsToStart}
use Rattle.ic_seat.specs.Seats.{disk_in}
use Rattle.ic_two_world.specs.Opening.{disks_under, FailsToBegin}
use Rattle.ic_two_world.proofs.Beginning.{AreComing, coming-first, coming-step, coming-refused}
use Rattle.ic_two_world.proofs.Lists.{length-set}
use Rattle.ic_two_world.proofs.Placed.{taken, back}
use Rattle.ic_two_world.proofs.Walking.{coming-all, ok-of}
use Rattle.ic_two_world.proofs.making.begin_all.Goals as goal

pub loop-place-init : goal.loop-place-init
loop-place-init g c = record { coming = coming-first g.D.Disk (openings_of c.args.books.now) c.args.fingerprint.now c.args.seats.now.items c.requires.on; count = refl }

pub begin-seat-requires-clause-down : goal.begin-seat-requires-clause-down
begin-seat-requires-clause-down g c =
    let xs = c.loop-place.seats.items in
    let i = c.loop-place.place in
    let within : i < length xs = omega (arith, c.loop-place-test.true, c.loop-place.auto.place-end, c.len-place-end.ensures, c.loop-place.invariant.count) in
    (c.loop-place.invariant.coming.down i c.remove.result (omega arith) (taken xs i i c.remove.result refl within c.remove.ensures.value)).0

pub begin-seat-requires-clause-stands : goal.begin-seat-requires-clause-stands
begin-seat-requires-clause-stands g c =
    let xs = c.loop-place.seats.items in
    let i = c.loop-place.place in
    let within : i < length xs = omega (arith, c.loop-place-test.true, c.loop-place.auto.place-end, c.len-place-end.ensures, c.loop-place.invariant.count) in
    (c.loop-place.invariant.coming.down i c.remove.result (omega arith) (taken xs i i c.remove.result refl within c.remove.ensures.value)).1

pub begin-seat-requires-clause-blank : goal.begin-seat-requires-clause-blank
begin-seat-requires-clause-blank g c =
    let xs = c.loop-place.seats.items in
    let i = c.loop-place.place in
    let within : i < length xs = omega (arith, c.loop-place-test.true, c.loop-place.auto.place-end, c.len-place-end.ensures, c.loop-place.invariant.count) in
    c.requires.blank i (disk_in c.remove.result).inner (c.loop-place.invariant.coming.blank i c.remove.result (omega arith) (taken xs i i c.remove.result refl within c.remove.ensures.value))

pub returns-in-Err-clause-refused : goal.returns-in-Err-clause-refused
returns-in-Err-clause-refused g c =
    let xs = c.loop-place.seats.items in
    let i = c.loop-place.place in
    let disks = disks_under c.args.seats.now.items in
    let y = c.begin-seat.result.0 in
    let within : i < length xs = omega (arith, c.loop-place-test.true, c.loop-place.auto.place-end, c.len-place-end.ensures, c.loop-place.invariant.count) in
    let at = taken xs i i c.remove.result refl within c.remove.ensures.value in
    let set = back xs c.remove.new.self.items c.put_back.new.seats.items i i y refl within c.remove.ensures.items c.put_back.ensures in
    let P : Result _ LoadWhy → Type 0 = λ r. IfErr r (FailsToStart g.D.Disk c.remove.result y) in
    let failed = subst P c.in-Err.is c.begin-seat.ensures.refused in
    let Q : List _ → Type 0 = λ ys. FailsToBegin g.D.Disk disks ys c.refusal.result in
    let W : TwoWhy → Type 0 = λ w. FailsToBegin g.D.Disk disks (slice_set xs i y) w in
    subst Q (sym set) (subst W (sym c.refusal.ensures)
    (coming-refused g.D.Disk (openings_of c.args.books.now) c.args.fingerprint.now disks i xs c.loop-place.invariant.coming c.remove.result y at c.begin-seat.ensures.disk c.in-Err.why failed))

pub loop-place-preserved : goal.loop-place-preserved
loop-place-preserved g c =
    let xs = c.loop-place.seats.items in
    let i = c.loop-place.place in
    let disks = disks_under c.args.seats.now.items in
    let y = c.begin-seat.result.0 in
    let within : i < length xs = omega (arith, c.loop-place-test.true, c.loop-place.auto.place-end, c.len-place-end.ensures, c.loop-place.invariant.count) in
    let at = taken xs i i c.remove.result refl within c.remove.ensures.value in
    let set = back xs c.remove.new.self.items c.put_back.new.seats.items i i y refl within c.remove.ensures.items c.put_back.ensures in
    let Q : List _ → Type 0 = λ ys. AreComing g.D.Disk (openings_of c.args.books.now) c.args.fingerprint.now disks (i + 1) ys in
    record {
      coming = subst Q (sym set)
          (coming-step g.D.Disk (openings_of c.args.books.now) c.args.fingerprint.now disks i xs c.loop-place.invariant.coming c.remove.result y at c.begin-seat.ensures.disk
          (ok-of c.begin-seat.result.1 c.in_default.not-Err c.begin-seat.ensures.step));
      count = ap length set ∙ length-set xs i y ∙ c.loop-place.invariant.count;
    }

pub returns-clause-step : goal.returns-clause-step
returns-clause-step g c =
    let xs = c.loop-place.seats.items in
    coming-all g.D.Disk (openings_of c.args.books.now) c.args.fingerprint.now (disks_under c.args.seats.now.items) c.loop-place.place xs
    (omega (arith, c.loop-place-test.false, c.loop-place.auto.place-end, c.len-place-end.ensures, c.loop-place.invariant.count)) c.loop-place.invariant.coming

pub returns-in-Err-clause-long : goal.returns-in-Err-clause-long
returns-in-Err-clause-long g c = c.told-fingerprint

pub returns-clause-long : goal.returns-clause-long
returns-clause-long g c = c.told-fingerprint
