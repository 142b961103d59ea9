-- The world that is made of given components.
use Rattle.std.specs.Prelude.{◌≡◌, ℕ, false, List, [], map}
use Rattle.ic_base.specs.declared.messages.ComId.{ComId}
use Rattle.ic_base.specs.declared.messages.Output.{Output}
use Rattle.ic_base.specs.declared.scenario.Program.{Program}
use Rattle.def_step.specs.World as definition
use Rattle.ic_disk.specs.declared.disk.Disk.{Ghosts}
use Rattle.ic_node.specs.Views.{node_of}
use Rattle.ic_node.specs.declared.component.Component.{Component}
use Rattle.ic_world.specs.Allowing.{IsMadeFor}
use Rattle.ic_world.specs.Views.{components_of, world_of, print_of, received_of, played_of, is_over}
use Rattle.ic_world.specs.declared.world.World.{World}

module _ {D : Type 0} {d : Ghosts D} where
  -- these components, with a network in which no packet was put out, where these outputs were shown
  abbrev pub assembled : List (Component D d) → List (ComId × Output) → definition.World
  assembled components showings = record { nodes = map (λ x. node_of x) components; packets = []; waiting = []; showings = showings }

  -- it is the program's, of just these components, with nothing received and nothing played
  pub record Assembles (program : Program) (print : List ℕ) (components : List (Component D d)) (showings : List (ComId × Output)) (new : World D d) : Type 0 where
    pub world : world_of new ≡ assembled components showings
    pub same : components_of new ≡ components
    pub is_own : print_of new ≡ print
    pub received : received_of new ≡ 0
    pub played : played_of new ≡ 0
    pub made : IsMadeFor program (world_of new)
    pub going : is_over new ≡ false
