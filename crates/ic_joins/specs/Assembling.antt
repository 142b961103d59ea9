-- The world behind the joins of a live run.
use Rattle.std.specs.Prelude.{◌≡◌, ℕ, List, flat_map}
use Rattle.ic_base.specs.declared.events.Event.{Event}
use Rattle.ic_base.specs.declared.messages.ComId.{ComId}
use Rattle.ic_base.specs.declared.messages.Output.{Output}
use Rattle.ic_base.specs.declared.scenario.Program.{Program}
use Rattle.def_live.specs.Assembled.{assembled, AreOf}
use Rattle.def_live.specs.Serial.{events_left}
use Rattle.def_run.specs.SystemStates.{KeepsLogs}
use Rattle.ic_disk.specs.declared.disk.Disk.{Ghosts}
use Rattle.ic_live.specs.Ended.{AreJoined}
use Rattle.ic_node.specs.declared.component.Component.{Component}
use Rattle.ic_turn.specs.Progresses.{left_of}
use Rattle.ic_turn.specs.declared.progress.Progress.{Progress}
use Rattle.ic_world.specs.Assembling.{Assembles}
use Rattle.ic_world.specs.Views.{world_of, state_of}
use Rattle.ic_world.specs.declared.world.World.{World}
use Rattle.ic_joins.specs.Placing.{ArePlaced}

module _ {D : Type 0} {d : Ghosts D} where
  -- it is the world of these components, with those outside in their places, where these outputs were shown
  pub record IsAssembled (program : Program) (print : List ℕ) (inside : List (Component D d)) (shown : List (ComId × Output)) (new : World D d) : Type 0 where
    pub all : List (Component D d)
    pub placed : ArePlaced program inside all
    pub assembles : Assembles program print all shown new

  -- Behind the joins: the world and the list of what is left are those of the berths, so the law of live runs speaks of what is done in it.
  pub record StandsJoined (program : Program) (print : List ℕ) (plan : ComId → List Event) (xs : List (Component D d)) (ps : List Progress) (joined : AreJoined program print plan xs ps) (new : World D d) : Type 0 where
    pub are : AreOf program (λ c. (joined.berths c).part) (world_of new).nodes (world_of new).showings
    pub world : world_of new ≡ assembled (world_of new).nodes (world_of new).showings
    pub kept : KeepsLogs print (state_of new)
    pub left : flat_map left_of ps ≡ events_left program joined.berths

  abbrev pub IsJoined : Program → List ℕ → List (Component D d) → List Progress → World D d → Type 0
  IsJoined program print xs ps new = (plan : ComId → List Event) (joined : AreJoined program print plan xs ps) → StandsJoined program print plan xs ps joined new
