use Rattle.std.proofs.Common.{◌≡◌, ◌<◌, ◌+◌, List, inr, sym, subst, length, arith}
use Rattle.std.specs.Prelude.{slice_set}
use Rattle.std.proofs.lemmas.Result.{err_from_is_err_and}
use Rattle.std.proofs.lemmas.Option.{slice_get-get_or}
use Rattle.ic_base.specs.declared.record.Batch.{Batch}
use Rattle.ic_opening.specs.Disks.{IsOnlyRead}
use Rattle.ic_opening.proofs.Loops.{nothing_done, all_done, cut}
use Rattle.ic_opening.proofs.Ones.{read_still}
use Rattle.ic_opening.proofs.Failures.{fails_at}
use Rattle.ic_migrate.specs.NewLogs.{IsFormerLog}
use Rattle.ic_migrate.specs.Refusals.{IsNoLog}
use Rattle.ic_migrate.proofs.Formers.{ReadTo, was_read, none_read, read_on, was_former}
use Rattle.ic_migrate.proofs.reading.read_all.Goals as goal

pub loop-i-init : goal.loop-i-init
loop-i-init g c =
    let e = c.in-Ok.ensures {u = tt} in
    record {
      so_far = none_read g.D.Disk c.args.fingerprint.now c.args.coms.now c.args.disks.now c.in-Ok.logs.items (nothing_done (was_read g.D.Disk) c.args.disks.now) e.items;
      len = e.len;
      room = omega (arith, e.capacity);
      within = omega arith;
    }

pub returns-in_err-log : goal.returns-in_err-log
returns-in_err-log g c =
    let d = g.D.Disk in
    let p = err_from_is_err_and c.from_residual.result c.from_residual.ensures.1 in
    let s = c.loop-i.invariant.so_far in
    let e = c.read_one.ensures in
    let lt : c.loop-i.i < length c.loop-i.disks = omega (arith, c.loop-i-test.true, c.loop-i.auto.i-end, s.run.long, c.requires) in
    record {
      disks = cut (was_read d) c.loop-i.i c.args.disks.now c.loop-i.disks s.run _ c.read_one.new.disk lt (λ j. IsOnlyRead d) (λ j x y both. both.0) (λ j x there. read_still d g.met.D.Disk.only_now g.met.D.Disk.keeping_tells x) (record { kept = e.disk; crash = e.crash; bytes = e.bytes });
      same = rw p.1 tt;
      logs = rw p.1 tt;
      refused = rw (p.1, p.2) (inr (fails_at (was_read d) c.loop-i.i c.args.disks.now c.loop-i.disks s.run _ c.read_one.new.disk lt c.args.coms.now _ (omega (arith, c.loop-i-test.true, c.loop-i.auto.i-end))
          (λ owner old new. IsNoLog d c.args.fingerprint.now owner old new c.in_err-log.field-0.0) (λ owner x. d.tells x → (bs : List Batch) × IsFormerLog c.args.fingerprint.now (d.seen x) bs)
          (λ j owner x below names there. was_former d c.args.fingerprint.now c.args.coms.now c.args.disks.now c.loop-i.i c.loop-i.disks c.loop-i.logs.items s j owner x below names there) c.in_err-log.ensures.refused));
    }

pub loop-i-preserved : goal.loop-i-preserved
loop-i-preserved g c =
    let d = g.D.Disk in
    let inv = c.loop-i.invariant in
    let s = inv.so_far in
    let i = c.loop-i.i in
    let given = c.args.fingerprint.now in
    let coms = c.args.coms.now in
    let olds = c.args.disks.now in
    let e = c.in_ok-log.ensures {u = tt} in
    let in_coms : i < length coms = omega (arith, c.loop-i-test.true, c.loop-i.auto.i-end) in
    let lt : i < length c.loop-i.disks = omega (arith, in_coms, s.run.long, c.requires) in
    record {
      so_far =
          subst (λ l. ReadTo d given coms olds (i + 1) (slice_set c.loop-i.disks i c.read_one.new.disk) l) (sym c.push_reserved.ensures.items)
          (read_on d given coms olds i c.loop-i.disks c.loop-i.logs.items s _ c.read_one.new.disk lt _ c.in_ok-log.log (slice_get-get_or coms i _ in_coms) (record { kept = e.disk; crash = e.crash; bytes = e.bytes }, e.same) e.log);
      len = omega (arith, c.push_reserved.ensures.len, inv.len);
      room = omega (arith, c.push_reserved.ensures.capacity, inv.room);
      within = omega (arith, in_coms);
    }

pub returns-clause-disks : goal.returns-clause-disks
returns-clause-disks g c =
    all_done (was_read g.D.Disk) (λ j. IsOnlyRead g.D.Disk) (λ j x y both. both.0) c.loop-i.i c.args.disks.now c.loop-i.disks (omega (arith, c.loop-i-test.false, c.loop-i.auto.i-end, c.requires)) c.loop-i.invariant.so_far.run

pub returns-clause-same : goal.returns-clause-same
returns-clause-same g c =
    all_done (was_read g.D.Disk) (λ j old new. g.D.Disk.tells old → g.D.Disk.seen new ≡ g.D.Disk.seen old) (λ j x y both. both.1) c.loop-i.i c.args.disks.now c.loop-i.disks (omega (arith, c.loop-i-test.false, c.loop-i.auto.i-end, c.requires)) c.loop-i.invariant.so_far.run

pub returns-clause-logs : goal.returns-clause-logs
returns-clause-logs g c = record { long = omega (arith, c.loop-i-test.false, c.loop-i.auto.i-end, c.loop-i.invariant.so_far.count, c.loop-i.invariant.within); each = c.loop-i.invariant.so_far.each }
