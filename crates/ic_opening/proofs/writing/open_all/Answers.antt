use Rattle.std.proofs.Common.{◌∙◌, ◌<◌, length, arith}
use Rattle.std.proofs.lemmas.Result.{err_from_is_err_and}
use Rattle.ic_opening.specs.Refusals.{IsNotWritten}
use Rattle.ic_opening.specs.Stages.{MayHold, Holds, may_hold, holds}
use Rattle.ic_opening.proofs.Loops.{nothing_done, all_done, go_on, cut, was_there}
use Rattle.ic_opening.proofs.Ones.{hold_still}
use Rattle.ic_opening.proofs.Failures.{fails_at}
use Rattle.ic_opening.proofs.Writes.{wrote_log, of_log, log_at}
use Rattle.ic_opening.proofs.writing.open_all.Goals as goal

pub loop-i-init : goal.loop-i-init
loop-i-init g c = nothing_done (wrote_log g.D.Disk c.args.logs.now) c.args.disks.now

pub open_one-requires-clause-log : goal.open_one-requires-clause-log
open_one-requires-clause-log g c = c.requires.new c.loop-i.i c.as_slice.result.now (log_at c.args.logs.now c.loop-i.i c.as_slice.result.now _ (c.as_slice.ensures ∙ c.index-logs-i.is) (omega (arith, c.loop-i-test.true, c.loop-i.auto.i-end, c.requires.logs)))

pub open_one-requires-clause-unopened : goal.open_one-requires-clause-unopened
open_one-requires-clause-unopened g c =
    let s = c.loop-i.invariant in
    let lt : c.loop-i.i < length c.loop-i.disks = omega (arith, c.loop-i-test.true, c.loop-i.auto.i-end, s.long, c.requires.disks) in
    (c.requires.ready c.loop-i.i c.as_slice.result.now _ (log_at c.args.logs.now c.loop-i.i c.as_slice.result.now _ (c.as_slice.ensures ∙ c.index-logs-i.is) (omega (arith, c.loop-i-test.true, c.loop-i.auto.i-end, c.requires.logs)))
    (was_there (wrote_log g.D.Disk c.args.logs.now) c.loop-i.i c.args.disks.now c.loop-i.disks s _ lt)).0

pub open_one-requires-clause-room : goal.open_one-requires-clause-room
open_one-requires-clause-room g c =
    let s = c.loop-i.invariant in
    let lt : c.loop-i.i < length c.loop-i.disks = omega (arith, c.loop-i-test.true, c.loop-i.auto.i-end, s.long, c.requires.disks) in
    (c.requires.ready c.loop-i.i c.as_slice.result.now _ (log_at c.args.logs.now c.loop-i.i c.as_slice.result.now _ (c.as_slice.ensures ∙ c.index-logs-i.is) (omega (arith, c.loop-i-test.true, c.loop-i.auto.i-end, c.requires.logs)))
    (was_there (wrote_log g.D.Disk c.args.logs.now) c.loop-i.i c.args.disks.now c.loop-i.disks s _ lt)).1

pub returns-in_err-open_one : goal.returns-in_err-open_one
returns-in_err-open_one g c =
    let d = g.D.Disk in
    let logs = c.args.logs.now in
    let olds = c.args.disks.now in
    let p = err_from_is_err_and c.from_residual.result c.from_residual.ensures.1 in
    let s = c.loop-i.invariant in
    let e = c.open_one.ensures in
    let lt : c.loop-i.i < length c.loop-i.disks = omega (arith, c.loop-i-test.true, c.loop-i.auto.i-end, s.long, c.requires.disks) in
    record {
      disks = cut (wrote_log d logs) c.loop-i.i olds c.loop-i.disks s _ c.open_one.new.disk lt (may_hold d logs) (λ j x y both. both.0)
          (λ j x there log got. hold_still d g.met.D.Disk.only_now g.met.D.Disk.keeping_tells log x (c.requires.ready j log x got there).0) (of_log logs c.loop-i.i c.as_slice.result.now _ (λ log. MayHold d log _ c.open_one.new.disk) (c.as_slice.ensures ∙ c.index-logs-i.is) e.may);
      written = rw p.1 tt;
      refused = rw (p.1, p.2) (fails_at (wrote_log d logs) c.loop-i.i olds c.loop-i.disks s _ c.open_one.new.disk lt c.args.coms.now _ (omega (arith, c.loop-i-test.true, c.loop-i.auto.i-end))
          (λ x old new. IsNotWritten d x old new c.in_err-open_one.field-0.0) (λ x y. Unit {0}) (λ j x y below names there. tt) c.in_err-open_one.ensures.refused);
    }

pub loop-i-preserved : goal.loop-i-preserved
loop-i-preserved g c =
    let d = g.D.Disk in
    let s = c.loop-i.invariant in
    let e = c.in_ok-open_one.ensures {u = tt} in
    let lt : c.loop-i.i < length c.loop-i.disks = omega (arith, c.loop-i-test.true, c.loop-i.auto.i-end, s.long, c.requires.disks) in
    go_on (wrote_log d c.args.logs.now) c.loop-i.i c.args.disks.now c.loop-i.disks s _ c.open_one.new.disk lt
    (of_log c.args.logs.now c.loop-i.i c.as_slice.result.now _ (λ log. MayHold d log _ c.open_one.new.disk) (c.as_slice.ensures ∙ c.index-logs-i.is) e.may, of_log c.args.logs.now c.loop-i.i c.as_slice.result.now _ (λ log. Holds d log _ c.open_one.new.disk) (c.as_slice.ensures ∙ c.index-logs-i.is) e.holds)

pub returns-clause-disks : goal.returns-clause-disks
returns-clause-disks g c =
    all_done (wrote_log g.D.Disk c.args.logs.now) (may_hold g.D.Disk c.args.logs.now) (λ j x y both. both.0) c.loop-i.i c.args.disks.now c.loop-i.disks (omega (arith, c.loop-i-test.false, c.loop-i.auto.i-end, c.requires.disks)) c.loop-i.invariant

pub returns-clause-written : goal.returns-clause-written
returns-clause-written g c =
    all_done (wrote_log g.D.Disk c.args.logs.now) (holds g.D.Disk c.args.logs.now) (λ j x y both. both.1) c.loop-i.i c.args.disks.now c.loop-i.disks (omega (arith, c.loop-i-test.false, c.loop-i.auto.i-end, c.requires.disks)) c.loop-i.invariant
