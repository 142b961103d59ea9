-- What contracts see of a world with its disks.
use Rattle.std.specs.Prelude.{◌≡◌, ℕ, Bool, List, map, Some, slice_get}
use Rattle.def_run.specs.SystemStates.{SystemState}
use Rattle.def_step.specs.World as definition
use Rattle.ic_disk.specs.declared.disk.Disk.{Ghosts}
use Rattle.ic_node.specs.Views.{node_of, file_of, Tells as ComponentTells}
use Rattle.ic_node.specs.declared.component.Component.{Component}
use Rattle.ic_world.specs.declared.world.World.{World}

module _ {D : Type 0} {d : Ghosts D} where
  abbrev pub components_of : World D d → List (Component D d)
  components_of w = w.components.items

  -- the world of the definitions: its components and its network
  abbrev pub world_of : World D d → definition.World
  world_of w = record {
    nodes = map (λ x. node_of x) w.components.items;
    packets = w.network.network.packets;
    waiting = w.network.network.waiting;
    showings = w.shown.showings;
  }

  -- the same, with the bytes that the disk of each component reads
  abbrev pub state_of : World D d → SystemState
  state_of w = record { world = world_of w; files = map (λ x. file_of x) w.components.items }

  -- the fingerprint of its scenario
  abbrev pub print_of : World D d → List ℕ
  print_of w = w.fingerprint

  -- how many inputs and messages were received, and how many records were played, since it was made
  abbrev pub received_of : World D d → ℕ
  received_of w = w.received

  abbrev pub played_of : World D d → ℕ
  played_of w = w.played

  -- whether it makes no further step, since a refusal ended it
  abbrev pub is_over : World D d → Bool
  is_over w = w.over

  -- each of its disks tells its bytes
  abbrev pub Tells : World D d → Type 0
  Tells w = (k : ℕ) (x : Component D d) → slice_get (components_of w) k ≡ Some x → ComponentTells x
