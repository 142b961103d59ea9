-- What a node is seen as.
use Rattle.std.specs.Prelude.{ℕ, List, [], Option, Some, None}
use Rattle.ic_base.specs.declared.record.Record.{Record}
use Rattle.def_step.specs.World as world
use Rattle.def_step.specs.World.{Runs, Serves, Down, External}
use Rattle.ic_disk.specs.declared.disk.Disk.{Ghosts}
use Rattle.law_tail.specs.Wholes.{with_earlier}
use Rattle.ic_pcom.specs.Views as pcoms
use Rattle.ic_tcom.specs.Views as tcoms
use Rattle.ic_node.specs.declared.node.Node.{Node}
use Rattle.ic_node.specs.declared.node.Node.TheVariants.{Per, Tra, Off, Ext}

module _ {D : Type 0} {d : Ghosts D} where
  -- The component as the definitions have it. The records that are kept are those that its disk holds while it is down, and those of a
  -- Pcom's log before its own while it is up.
  abbrev pub node_with : List Record → Node D d → world.Node
  node_with kept (Per p) = Runs (with_earlier kept (pcoms.component_of p))
  node_with kept (Tra t) = Serves (tcoms.component_of t)
  node_with kept (Off disk) = Down kept
  node_with kept Ext = External

  -- its disk; a component outside has none
  abbrev pub disk_in : Node D d → Option D
  disk_in (Per p) = Some (pcoms.disk_of p)
  disk_in (Tra t) = Some (tcoms.disk_of t)
  disk_in (Off disk) = Some disk
  disk_in Ext = None

module _ {D : Type 0} (d : Ghosts D) where
  -- the bytes that a disk reads
  abbrev pub read_of : Option D → List ℕ
  read_of None = []
  read_of (Some disk) = d.seen disk

  -- the disk, if there is one, tells its bytes
  abbrev pub told_of : Option D → Type 0
  told_of None = Unit {0}
  told_of (Some disk) = d.tells disk
