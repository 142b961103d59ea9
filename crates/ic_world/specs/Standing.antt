-- What holds of a world between events.
use Rattle.std.specs.Prelude.{◌≡◌, ℕ, false, List, Some, slice_get}
use Rattle.def_run.specs.SystemStates.{IsLog}
use Rattle.def_run.specs.CoreSteps.{forced_of}
use Rattle.ic_disk.specs.declared.disk.Disk.{Ghosts}
use Rattle.ic_node.specs.Views.{node_of, disk_of, com_of, is_over}
use Rattle.ic_node.specs.declared.component.Component.{Component}

module _ {D : Type 0} {d : Ghosts D} where
  -- each component stands in its place, and goes on
  abbrev pub ArePlaced : List (Component D d) → Type 0
  ArePlaced xs = (k : ℕ) (x : Component D d) → slice_get xs k ≡ Some x → ((com_of x).0 ≡ k) × (is_over x ≡ false)

  -- each disk that tells its bytes holds the log of this scenario, with the records that its component has forced
  abbrev pub HoldLogs : List ℕ → List (Component D d) → Type 0
  HoldLogs print xs =
      (k : ℕ) (x : Component D d) (disk : D) → slice_get xs k ≡ Some x → disk_of x ≡ Some disk → d.tells disk → IsLog print k (d.seen disk) (forced_of (Some (node_of x)))
