-- How often the disks of components have failed.
use Rattle.std.specs.Prelude.{◌≡◌, ◌≤◌, ℕ, List, Option, Some, None, slice_get}
use Rattle.ic_disk.specs.declared.disk.Disk.{Ghosts}
use Rattle.ic_node.specs.Views.{disk_of}
use Rattle.ic_node.specs.declared.component.Component.{Component}

-- of a disk, if there is one
abbrev pub faults_in : {D : Type 0} → Ghosts D → Option D → ℕ
faults_in d None = 0
faults_in d (Some disk) = d.faults disk

module _ {D : Type 0} {d : Ghosts D} where
  abbrev pub faults_of : Component D d → ℕ
  faults_of x = faults_in d (disk_of x)

  -- of the component in a place, if there is one
  abbrev pub faults_at : List (Component D d) → ℕ → ℕ
  faults_at xs k = elim (slice_get xs k) [ None ↦ 0 | Some x ↦ faults_of x ]

  -- the disk in each place has failed at least so often
  abbrev pub HaveFailed : (ℕ → ℕ) → List (Component D d) → Type 0
  HaveFailed began xs = (k : ℕ) (x : Component D d) → slice_get xs k ≡ Some x → began k ≤ faults_of x
