-- What a world is that was opened over disks.
use Rattle.std.proofs.Common.{◌≡◌, ap, ℕ, List, []}
use Rattle.ic_base.specs.declared.scenario.Program.{Program}
use Rattle.def_step.specs.World as definition
use Rattle.ic_disk.specs.TornDisks.{Torn}
use Rattle.ic_disk.specs.declared.disk.Disk.{Ghosts}
use Rattle.ic_disk.specs.Torns.{torn}
use Rattle.ic_world.specs.Opening as opens
use Rattle.ic_world.specs.Opening.{IsNewWorld}
use Rattle.ic_world.specs.Views.{world_of, state_of}
use Rattle.ic_world.specs.declared.world.World.{World}
use Rattle.ic_run.specs.Openings.{IsOpened, BeginsAs}
use Rattle.ic_run.specs.Worlds.{Opens}
use Rattle.ic_run.specs.declared.opening.Opening.{Opening}
use Rattle.ic_run.specs.declared.opening.Opening.TheVariants.{Anew, Found}

module _ {D : Type 0} (b : Ghosts D) (program : Program) (fingerprint : List ℕ) (given : List D) (new : World (Torn D) (torn b)) where
  pub opened-new : (o : Opening) → Opens b o program fingerprint given new → IsNewWorld b program fingerprint given new
  opened-new Anew s = s.is_new
  opened-new Found f = f.is_new

  pub opened-state : (o : Opening) → Opens b o program fingerprint given new → opens.AllTell b given → IsOpened o program fingerprint (opens.files_on b program given) (state_of new)
  opened-state Anew s tell = s.state tell
  opened-state Found f tell = f.state tell

  pub opened-world : (o : Opening) → Opens b o program fingerprint given new → BeginsAs o program (world_of new)
  opened-world Anew s = s.world
  opened-world Found f = (f.logs, f.world)

-- no packet was put out yet
pub no-packets : (o : Opening) (program : Program) (w : definition.World) → BeginsAs o program w → w.packets ≡ []
no-packets Anew program w is = ap (λ (v : definition.World). v.packets) is
no-packets Found program w is = ap (λ (v : definition.World). v.packets) is.1
