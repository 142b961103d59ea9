-- What the threads of a live run come to.
use Rattle.std.specs.Prelude.{ℕ, List, Some, None, slice_get}
use Rattle.ic_base.specs.declared.events.Event.{Event}
use Rattle.ic_base.specs.declared.scenario.Program.{Program}
use Rattle.ic_disk.specs.TornDisks.{Torn}
use Rattle.ic_disk.specs.Torns.{torn}
use Rattle.ic_disk.specs.declared.disk.Disk.{Ghosts}
use Rattle.ic_live.specs.Berthed.{list_of}
use Rattle.ic_live.specs.Ended.{AreJoined, IsRefused}
use Rattle.ic_node.specs.declared.component.Component.{Component}
use Rattle.ic_turn.specs.declared.progress.Progress.{Progress}
use Rattle.ic_joins.specs.declared.threads.ThreadsRefused.{ThreadsRefused}
use Rattle.ic_joins.specs.declared.threads.ThreadsRefused.TheVariants as threads
use Rattle.ic_world.specs.Opening.{AllTell, FailsToStart}

module _ {D : Type 0} (b : Ghosts D) where
  -- where the disks tell their bytes, the components come back joined
  abbrev pub JoinsTold : Program → List ℕ → List Event → List D → List (Component (Torn D) (torn b)) → List Progress → Type 0
  JoinsTold program print plan disks xs ps = AllTell b disks → AreJoined program print (λ c. list_of c plan) xs ps

  -- how often the disk in a place had failed, if there is one
  abbrev pub faults_on : List D → ℕ → ℕ
  faults_on disks k = elim (slice_get disks k) [ None ↦ 0 | Some disk ↦ b.faults disk ]

  -- No world starts, a component is refused, or memory is wanting. Where the disks tell their bytes none is refused for a bad log or a foreign one.
  abbrev pub FailsToRun : Program → List ℕ → List D → ThreadsRefused D (Torn D) (torn b) → Type 0
  FailsToRun program print disks (threads.Start refused) = FailsToStart b program disks refused
  FailsToRun program print disks (threads.Run refused) = IsRefused b (faults_on disks) (AllTell b disks) program print refused.components refused.received refused.packets refused.why
  FailsToRun program print disks threads.Memory = Unit {0}
