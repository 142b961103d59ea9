use Rattle.std.proofs.Common.{◌∙◌, ◌<◌, inl, length, arith}
use Rattle.std.proofs.lemmas.Result.{err_from_is_err_and}
use Rattle.ic_opening.specs.Disks.{IsOnlyRead}
use Rattle.ic_opening.specs.Stages.{HasRoom, has_room}
use Rattle.ic_opening.proofs.Loops.{nothing_done, all_done, go_on, cut}
use Rattle.ic_opening.proofs.Ones.{read_still}
use Rattle.ic_opening.proofs.Writes.{roomy, of_log, log_at}
use Rattle.ic_opening.proofs.writing.reserve_all.Goals as goal

pub loop-i-init : goal.loop-i-init
loop-i-init g c = nothing_done (roomy g.D.Disk c.args.logs.now) c.args.disks.now

pub reserve_one-requires : goal.reserve_one-requires
reserve_one-requires g c = c.requires.new c.loop-i.i c.as_slice.result.now (log_at c.args.logs.now c.loop-i.i c.as_slice.result.now _ (c.as_slice.ensures ∙ c.index-logs-i.is) (omega (arith, c.loop-i-test.true, c.loop-i.auto.i-end)))

pub returns-in_err-reserve_one : goal.returns-in_err-reserve_one
returns-in_err-reserve_one g c =
    let d = g.D.Disk in
    let p = err_from_is_err_and c.from_residual.result c.from_residual.ensures.1 in
    let s = c.loop-i.invariant in
    let e = c.reserve_one.ensures in
    let lt : c.loop-i.i < length c.loop-i.disks = omega (arith, c.loop-i-test.true, c.loop-i.auto.i-end, s.long, c.requires.disks) in
    record {
      disks = cut (roomy d c.args.logs.now) c.loop-i.i c.args.disks.now c.loop-i.disks s _ c.reserve_one.new.disk lt (λ j. IsOnlyRead d) (λ j x y both. both.0) (λ j x there. read_still d g.met.D.Disk.only_now g.met.D.Disk.keeping_tells x) (record { kept = e.disk; crash = e.crash; bytes = λ t. inl (e.seen t) });
      room = rw p.1 tt;
      refused = rw (p.1, p.2) c.in_err-reserve_one.ensures.refused;
    }

pub loop-i-preserved : goal.loop-i-preserved
loop-i-preserved g c =
    let d = g.D.Disk in
    let s = c.loop-i.invariant in
    let e = c.in_ok-reserve_one.ensures {u = tt} in
    let lt : c.loop-i.i < length c.loop-i.disks = omega (arith, c.loop-i-test.true, c.loop-i.auto.i-end, s.long, c.requires.disks) in
    go_on (roomy d c.args.logs.now) c.loop-i.i c.args.disks.now c.loop-i.disks s _ c.reserve_one.new.disk lt
    (record { kept = e.disk; crash = e.crash; bytes = λ t. inl (e.seen t) }, of_log c.args.logs.now c.loop-i.i c.as_slice.result.now _ (λ log. HasRoom d log _ c.reserve_one.new.disk) (c.as_slice.ensures ∙ c.index-logs-i.is) e.room)

pub returns-clause-disks : goal.returns-clause-disks
returns-clause-disks g c =
    all_done (roomy g.D.Disk c.args.logs.now) (λ j. IsOnlyRead g.D.Disk) (λ j x y both. both.0) c.loop-i.i c.args.disks.now c.loop-i.disks (omega (arith, c.loop-i-test.false, c.loop-i.auto.i-end, c.requires.disks)) c.loop-i.invariant

pub returns-clause-room : goal.returns-clause-room
returns-clause-room g c =
    all_done (roomy g.D.Disk c.args.logs.now) (has_room g.D.Disk c.args.logs.now) (λ j x y both. both.1) c.loop-i.i c.args.disks.now c.loop-i.disks (omega (arith, c.loop-i-test.false, c.loop-i.auto.i-end, c.requires.disks)) c.loop-i.invariant
