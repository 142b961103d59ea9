-- Why an event isn't done that met a disk.
use Rattle.std.specs.Prelude.{◌⊎◌, Option, Some, None}
use Rattle.ic_disk.specs.Causes.{Rose}
use Rattle.ic_disk.specs.TornDisks.{Torn}
use Rattle.ic_disk.specs.declared.disk.Disk.{Ghosts}
use Rattle.ic_node.specs.Views.{disk_of}
use Rattle.ic_node.specs.declared.component.Component.{Component}

module _ {D : Type 0} (b : Ghosts D) where
  abbrev pub has_fault : Option (Torn D) → Option (Torn D) → Type 0
  has_fault None new = ⊥
  has_fault (Some old) None = ⊥
  has_fault (Some old) (Some new) = Rose (b.faults old.inner) (b.faults new.inner) ⊎ b.stopped new.inner

  -- the disk below failed in the event, or stands stopped itself
  abbrev pub HasFault : {d : Ghosts (Torn D)} → Component (Torn D) d → Component (Torn D) d → Type 0
  HasFault old new = has_fault (disk_of old) (disk_of new)
