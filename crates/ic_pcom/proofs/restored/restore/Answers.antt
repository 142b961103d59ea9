use Rattle.std.proofs.Common.{◌≡◌, sym, subst}
use Rattle.std.specs.Prelude.{false}
use Rattle.ic_disk.specs.Disk.{Makes}
use Rattle.ic_disk.proofs.Disks.{makes_refused}
use Rattle.ic_gate.specs.Reading.{tail_calls}
use Rattle.ic_gate.specs.declared.refusals.LoadWhy.TheVariants.{Failed}
use Rattle.ic_pcom.specs.Restorations.{RefusesToRestore}
use Rattle.ic_pcom.proofs.Restores.{not_played}
use Rattle.ic_pcom.proofs.restored.restore.Goals as goal

pub returns-in-Err-clause-calls : goal.returns-in-Err-clause-calls
returns-in-Err-clause-calls g c =
    let P : g.row.D.Denot → Type 0 = λ x. Makes g.D.Disk tail_calls false (c.in-Err.why ≡ Failed) c.args.disk x in
    subst P (sym c.into_disk.ensures) (makes_refused _ (c.in_ok-log.ensures {u = tt}).calls)

pub returns-in-Err-clause-refused : goal.returns-in-Err-clause-refused
returns-in-Err-clause-refused g c =
    let program = c.args.program.now in
    let why = c.in-Err.why in
    let P : g.row.D.Denot → Type 0 = λ x. RefusesToRestore g.D.Disk program c.args.«com» c.args.disk c.args.fingerprint.now x why in
    subst P (sym c.into_disk.ensures) (not_played g.D.Disk g.met.D.Disk.keeping_tells program c.args.«com» c.args.disk c.args.fingerprint.now c.in_ok-log.log c.in_ok-log.placed why (c.in_ok-log.ensures {u = tt}).step (c.in_ok-log.ensures {u = tt}).disk (c.in-Err.ensures {u = tt}).refused)
