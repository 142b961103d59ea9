-- The events that a program allows, and the worlds that are made for it.
use Rattle.std.specs.Prelude.{◌≡◌, ◌≤◌, Bool, true, false, length, Option, Some, None}
use Rattle.ic_base.specs.declared.messages.ComId.{ComId}
use Rattle.ic_base.specs.declared.events.Answer.TheVariants as answers
use Rattle.ic_base.specs.declared.events.What.{What}
use Rattle.ic_base.specs.declared.limits.TheConstants.{COMPONENTS}
use Rattle.ic_base.specs.declared.scenario.Program.{Program}
use Rattle.def_facts.specs.Playable.{IsPlayable}
use Rattle.def_run.specs.SystemStates.{has_disk}
use Rattle.def_step.specs.Settle.{asked_of}
use Rattle.def_step.specs.World.{World, Node, External, node_at}
use Rattle.ic_disk.specs.declared.disk.Disk.{Ghosts}
use Rattle.ic_world.specs.Views.{world_of, is_over}
use Rattle.ic_world.specs.declared.world.World as worlds
use Rattle.law_settle.specs.Kept.{IsWorldPutToKept}
use Rattle.law_settle.specs.Represented.{IsWorldRepresented}

-- a component that has a disk, and so is no Xcom
abbrev pub is_kept : Option Node → Bool
is_kept None = false
is_kept (Some External) = false
is_kept (Some node) = true

-- The world is made for the program: its components that have a disk are those of the program, and each packet goes to one of them.
-- The rest of it are the facts that events keep so, whatever the disks give.
pub record IsMadeFor (program : Program) (w : World) : Type 0 where
  pub playable : IsPlayable program
  pub kept : (c : ComId) → is_kept (node_at w c) ≡ has_disk program c
  pub represented : IsWorldRepresented program w
  pub puts : IsWorldPutToKept program w

-- the world is one of the program, and goes on
pub record GoesOn (program : Program) {D : Type 0} {d : Ghosts D} (w : worlds.World D d) : Type 0 where
  pub few : length program.components ≤ COMPONENTS
  pub made : IsMadeFor program (world_of w)
  pub going : is_over w ≡ false

-- the component that the event names, as the receiver if there are two, has a disk; a packet's number names none
abbrev pub is_allowed : Program → What → Bool
is_allowed program what = elim (asked_of what answers.Idle) [ None ↦ true | Some c ↦ has_disk program c ]
