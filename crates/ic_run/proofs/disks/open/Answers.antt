use Rattle.std.proofs.Common.{subst, sym, ℕ, List, IfOk, IfErr}
use Rattle.std.specs.Prelude.{Result, Ok, Err}
use Rattle.ic_base.specs.declared.scenario.Program.{Program}
use Rattle.ic_disk.specs.TornDisks.{Torn}
use Rattle.ic_disk.specs.declared.disk.Disk.{Ghosts}
use Rattle.ic_disk.specs.Torns.{torn}
use Rattle.ic_run.specs.Worlds.{Opens, FailsToOpen}
use Rattle.ic_run.specs.declared.opening.Opening.TheVariants.{Found}
use Rattle.ic_world.specs.Opening.{FailsToFind, EachMeets, LeavesNoMore, disks_behind}
use Rattle.ic_world.specs.declared.opening.StartRefused.{StartRefused}
use Rattle.ic_world.specs.declared.world.World.{World}
use Rattle.ic_run.proofs.disks.open.Goals as goal

pub returns-in-Anew-clause-step : goal.returns-in-Anew-clause-step
returns-in-Anew-clause-step g c = subst (λ o. IfOk c.start.result (Opens g.D.Disk o c.args.program.now c.args.fingerprint.now c.args.disks.items)) (sym c.in-Anew.is) c.start.ensures.step

not-found : {D : Type 0} (b : Ghosts D) (program : Program) (print : List ℕ) (disks : List D) (r : Result (World (Torn D) (torn b)) (StartRefused D)) → IfErr r (FailsToFind b program print disks) → EachMeets (LeavesNoMore b) disks (disks_behind r) → IfErr r (FailsToOpen b Found program print disks)
not-found b program print disks (Ok w) fails read = tt
not-found b program print disks (Err refused) fails read = (fails, read)

pub returns-in-Found-clause-refused : goal.returns-in-Found-clause-refused
returns-in-Found-clause-refused g c =
    subst (λ o. IfErr c.found.result (FailsToOpen g.D.Disk o c.args.program.now c.args.fingerprint.now c.args.disks.items)) (sym c.in-Found.is)
    (not-found g.D.Disk c.args.program.now c.args.fingerprint.now c.args.disks.items c.found.result c.found.ensures.refused c.found.ensures.crash)
