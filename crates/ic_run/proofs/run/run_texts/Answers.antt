use Rattle.std.proofs.Common.{◌∙◌, sym, ap, subst, refl, arith, ◌≤◌, ◌+◌, length, inl, inr}
use Rattle.std.specs.Prelude.{codes}
use Rattle.ic_run.proofs.Places.{lent_count, all_count}
use Rattle.ic_run.proofs.Programs.{enough_back}
use Rattle.ic_report.specs.declared.ending.Why.TheVariants.{Memory}
use Rattle.ic_run.specs.Runs.{Runs}
use Rattle.ic_run.proofs.Completing.{completes}
use Rattle.ic_run.proofs.Called.{enough, all-back, call-hands, call-done, call-short}
use Rattle.ic_run.proofs.Whole.{untried}
use Rattle.ic_run.proofs.run.run_texts.Goals as goal

pub run_over-taken-requires-clause-disks : goal.run_over-taken-requires-clause-disks
run_over-taken-requires-clause-disks g c =
    ap length (c.in-Ok.ensures {u = tt}).taken
    ∙ lent_count c.args.texts.now.program.components c.args.disks.now.items (enough g.D.Disk g.K.Sink c.args.texts.now c.args.opening c.args.disks.now.items c.requires.may.fit.bytes.components c.requires.disks)

pub returns-in_default-clause-runs : goal.returns-in_default-clause-runs
returns-in_default-clause-runs g c =
    subst (λ l. Runs g.D.Disk g.K.Sink c.args.texts.now c.args.opening c.args.disks.now.items l c.args.out.now c.args.out.now 12) (sym (c.in_default.ensures {u = tt}).kept)
    (inr (inl (untried g.D.Disk g.K.Sink c.args.texts.now c.args.opening c.args.disks.now.items (enough g.D.Disk g.K.Sink c.args.texts.now c.args.opening c.args.disks.now.items c.requires.may.fit.bytes.components c.requires.disks) c.args.out.now (codes "icrun") c.args.out.now Memory 12 refl (refl, refl))))

pub put_back-requires-clause-count : goal.put_back-requires-clause-count
put_back-requires-clause-count g c =
    (all-back g.D.Disk g.K.Sink c.args.texts.now c.args.opening c.args.disks.now.items c.requires.may.fit.bytes.components c.requires.disks c.args.out.now c.run_over-taken.new.out c.run_over-taken.result.0.items c.run_over-taken.result.1 (c.in-Ok.ensures {u = tt}).taken c.run_over-taken.ensures).count

pub put_back-requires-clause-enough : goal.put_back-requires-clause-enough
put_back-requires-clause-enough g c =
    subst (λ n. length c.args.texts.now.program.components ≤ n + length c.run_over-taken.result.0.items) (sym (ap length (c.in-Ok.ensures {u = tt}).left))
    (enough_back c.args.texts.now.program c.args.disks.now.items c.run_over-taken.result.0.items (enough g.D.Disk g.K.Sink c.args.texts.now c.args.opening c.args.disks.now.items c.requires.may.fit.bytes.components c.requires.disks)
    (all-back g.D.Disk g.K.Sink c.args.texts.now c.args.opening c.args.disks.now.items c.requires.may.fit.bytes.components c.requires.disks c.args.out.now c.run_over-taken.new.out c.run_over-taken.result.0.items c.run_over-taken.result.1 (c.in-Ok.ensures {u = tt}).taken c.run_over-taken.ensures).count)

pub put_back-requires-clause-room : goal.put_back-requires-clause-room
put_back-requires-clause-room g c =
    let few = enough g.D.Disk g.K.Sink c.args.texts.now c.args.opening c.args.disks.now.items c.requires.may.fit.bytes.components c.requires.disks in
    omega (
      arith,
      (all-back g.D.Disk g.K.Sink c.args.texts.now c.args.opening c.args.disks.now.items c.requires.may.fit.bytes.components c.requires.disks c.args.out.now c.run_over-taken.new.out c.run_over-taken.result.0.items c.run_over-taken.result.1 (c.in-Ok.ensures {u = tt}).taken c.run_over-taken.ensures).count,
      ap length (c.in-Ok.ensures {u = tt}).left,
      all_count c.args.texts.now.program.components c.args.disks.now.items few,
      lent_count c.args.texts.now.program.components c.args.disks.now.items few,
      (c.in-Ok.ensures {u = tt}).room,
      c.args.disks.now.ok.0,
      c.args.disks.now.ok.1,
      c.take_disks.new.disks.ok.0,
      c.run_over-taken.result.0.ok.0,
    )

pub returns-in-Ok-ended-clause-runs : goal.returns-in-Ok-ended-clause-runs
returns-in-Ok-ended-clause-runs g c =
    call-done g.D.Disk g.K.Sink c.args.texts.now c.args.opening c.args.disks.now.items c.requires.may.fit.bytes.components c.requires.disks c.args.out.now c.run_over-taken.new.out c.run_over-taken.result.0.items c.run_over-taken.result.1 (c.in-Ok.ensures {u = tt}).taken c.run_over-taken.ensures
    (c.in-Ok.ensures {u = tt}).left c.put_back.ensures c.requires.may tt c.in-Ok-ended.is

pub returns-in-Ok-ended-clause-disks : goal.returns-in-Ok-ended-clause-disks
returns-in-Ok-ended-clause-disks g c =
    call-hands g.D.Disk g.K.Sink c.args.texts.now c.args.opening c.args.disks.now.items c.requires.may.fit.bytes.components c.requires.disks c.args.out.now c.run_over-taken.new.out c.run_over-taken.result.0.items c.run_over-taken.result.1 (c.in-Ok.ensures {u = tt}).taken c.run_over-taken.ensures
    (c.in-Ok.ensures {u = tt}).left c.put_back.ensures

pub returns-in-Err-clause-runs : goal.returns-in-Err-clause-runs
returns-in-Err-clause-runs g c =
    call-short g.D.Disk g.K.Sink c.args.texts.now c.args.opening c.args.disks.now.items c.requires.may.fit.bytes.components c.requires.disks c.args.out.now c.run_over-taken.new.out c.run_over-taken.result.0.items c.run_over-taken.result.1 (c.in-Ok.ensures {u = tt}).taken c.run_over-taken.ensures
    (c.in-Ok.ensures {u = tt}).left c.put_back.ensures g.met.D.Disk.read_may_stay c.requires.may c.end_with.new.out c.in-Err.why c.end_with.result c.in-Err.is c.end_with.ensures

pub returns-in-Err-clause-disks : goal.returns-in-Err-clause-disks
returns-in-Err-clause-disks g c =
    call-hands g.D.Disk g.K.Sink c.args.texts.now c.args.opening c.args.disks.now.items c.requires.may.fit.bytes.components c.requires.disks c.args.out.now c.run_over-taken.new.out c.run_over-taken.result.0.items c.run_over-taken.result.1 (c.in-Ok.ensures {u = tt}).taken c.run_over-taken.ensures
    (c.in-Ok.ensures {u = tt}).left c.put_back.ensures

pub returns-in_default-clause-completes : goal.returns-in_default-clause-completes
returns-in_default-clause-completes g c = completes g.D.Disk g.K.Sink c.args.texts.now c.args.opening c.args.disks.now.items c.take_disks.new.disks.items c.args.out.now c.args.out.now c.requires.may 12 (returns-in_default-clause-runs g c)

pub returns-in-Ok-ended-clause-completes : goal.returns-in-Ok-ended-clause-completes
returns-in-Ok-ended-clause-completes g c = completes g.D.Disk g.K.Sink c.args.texts.now c.args.opening c.args.disks.now.items c.put_back.new.disks.items c.args.out.now c.run_over-taken.new.out c.requires.may 0 (returns-in-Ok-ended-clause-runs g c)

pub returns-in-Err-clause-completes : goal.returns-in-Err-clause-completes
returns-in-Err-clause-completes g c = completes g.D.Disk g.K.Sink c.args.texts.now c.args.opening c.args.disks.now.items c.put_back.new.disks.items c.args.out.now c.end_with.new.out c.requires.may c.end_with.result (returns-in-Err-clause-runs g c)
