-- All components of a program, made of those that have a disk.
use Rattle.std.specs.Prelude.{◌≡◌, ◌⊎◌, ℕ, true, false, List, ◌∷◌, length, Some, slice_get}
use Rattle.ic_base.specs.declared.messages.ComId.{ComId}
use Rattle.ic_base.specs.declared.scenario.Program.{Program}
use Rattle.def_run.specs.SystemStates.{has_disk}
use Rattle.def_step.specs.World.{External}
use Rattle.ic_disk.specs.declared.disk.Disk.{Ghosts}
use Rattle.ic_live.specs.Berthed.{berthed}
use Rattle.ic_node.specs.Views.{node_of, com_of, is_over}
use Rattle.ic_node.specs.declared.component.Component.{Component}

module _ {D : Type 0} {d : Ghosts D} where
  -- the component is outside, and has no disk
  pub record IsOutside (c : ComId) (x : Component D d) : Type 0 where
    pub node : node_of x ≡ External
    pub which : com_of x ≡ c
    pub going : is_over x ≡ false

  -- the component c: the first of these, if it has a disk, or one outside
  abbrev pub IsNext : Program → ComId → List (Component D d) → List (Component D d) → Component D d → Type 0
  IsNext program c inside rest x = ((has_disk program c ≡ true) × (inside ≡ x ∷ rest)) ⊎ ((has_disk program c ≡ false) × (inside ≡ rest) × IsOutside c x)

  -- The component in this place: where it has a disk, the one of these whose turn it is; else one outside.
  abbrev pub IsPlaced : Program → List (Component D d) → ComId → Component D d → Type 0
  IsPlaced program inside c x = ((j : ℕ) × (slice_get (berthed program) j ≡ Some c) × (slice_get inside j ≡ Some x)) ⊎ ((has_disk program c ≡ false) × IsOutside c x)

  -- one for each component of the program, in order
  pub record ArePlaced (program : Program) (inside all : List (Component D d)) : Type 0 where
    pub count : length all ≡ length program.components
    pub each : (c : ComId) (x : Component D d) → slice_get all c.0 ≡ Some x → IsPlaced program inside c x
