-- Where a world is explained, and what a crash of the whole machine leaves of one that is.
use Rattle.std.specs.Prelude.{◌≡◌, ◌⊎◌, ℕ, List, [], Option, Some, slice_get}
use Rattle.ic_base.specs.declared.messages.ComId.{ComId}
use Rattle.ic_base.specs.declared.events.Event.{Event}
use Rattle.ic_base.specs.declared.scenario.Program.{Program}
use Rattle.def_facts.specs.Flat.{HasFlatParts}
use Rattle.def_facts.specs.Logs.{Logs}
use Rattle.def_facts.specs.Sound.{AreSound}
use Rattle.def_facts.specs.World.{forced_logs}
use Rattle.def_log.specs.Laws.{IsBytes}
use Rattle.def_run.specs.Openings.{IsFound}
use Rattle.def_run.specs.SystemStates.{SystemState, file_in}
use Rattle.def_step.specs.World as definition
use Rattle.ic_disk.specs.declared.disk.Disk.{Ghosts}
use Rattle.ic_node.specs.Views.{disk_of}
use Rattle.ic_node.specs.declared.component.Component.{Component}
use Rattle.law_run.specs.ProgramBytes.{HasBytes}
use Rattle.law_run.specs.Executions.{IsExplainedInBytes}
use Rattle.law_step.specs.Steps.{PassesNoLimit, here_behind}
use Rattle.law_syntax.specs.Events.{IsEvent}
use Rattle.ic_world.specs.Opening.{AllTell, files_on}
use Rattle.ic_world.specs.Views.{components_of, world_of, print_of, Tells}
use Rattle.ic_world.specs.declared.world.World.{World}

-- an explained world, and an event that may come, of a program such as a scenario has
pub record IsExplainedBefore (program : Program) (found : Logs) (here : ComId → ℕ) (w : definition.World) (e : Event) : Type 0 where
  pub flat : HasFlatParts program
  pub bytes : HasBytes program
  pub event : IsEvent program e
  pub explained : IsExplainedInBytes program found here w

module _ {D : Type 0} (d : Ghosts D) where
  -- an image that a crash may leave of a disk, at a moment of an event or behind it
  abbrev pub may_be_left : Option D → Option D → List ℕ → Type 0
  may_be_left (Some old) (Some new) image = d.keeps old × (d.left_since new (d.moment old) image ⊎ d.may_leave new image)
  may_be_left old new image = Unit {0}

module _ {D : Type 0} {d : Ghosts D} where
  -- a world whose components just came up over fresh logs
  abbrev pub BeginsExplained : Program → World D d → Type 0
  BeginsExplained program new = HasBytes program → IsExplainedInBytes program [] (λ c. 0) (world_of new)

  -- one that is found over sound logs, on disks that tell and hold bytes
  abbrev pub IsFoundExplained : {B : Type 0} → Ghosts B → Program → List B → World D d → Type 0
  IsFoundExplained b program disks new =
      AllTell b disks → ((c : ComId) → IsBytes (file_in (files_on b program disks) c)) → AreSound program (forced_logs (world_of new)) → IsExplainedInBytes program (forced_logs (world_of new)) (λ c. 0) (world_of new)

  -- where the disks tell, an event keeps the world explained
  abbrev pub KeepsExplained : Program → World D d → Event → World D d → Type 0
  KeepsExplained program old e new =
      (found : Logs) (here : ComId → ℕ) → Tells old → IsExplainedBefore program found here (world_of old) e → IsExplainedInBytes program found (here_behind here (world_of old) (world_of new)) (world_of new)

  -- of each disk one
  abbrev pub AreLeft : World D d → World D d → List (List ℕ) → Type 0
  AreLeft old new images =
      (c : ComId) (x y : Component D d) → slice_get (components_of old) c.0 ≡ Some x → slice_get (components_of new) c.0 ≡ Some y → may_be_left d (disk_of x) (disk_of y) (file_in images c)

  -- Whatever images a crash of the whole machine leaves of an explained world: the logs that are read from them are sound together. The
  -- log may have no room for what the event adds, but no number passes its limit.
  abbrev pub CrashLeavesSound : Program → World D d → Event → World D d → Type 0
  CrashLeavesSound program old e new =
      (found : Logs) (here : ComId → ℕ) (images : List (List ℕ)) (r : SystemState) → PassesNoLimit program (world_of old) e.what → IsExplainedBefore program found here (world_of old) e → AreLeft old new images →
      IsFound program (print_of old) images r → AreSound program (forced_logs r.world)
