-- What contracts see of a component with its disk.
use Rattle.std.specs.Prelude.{ℕ, Bool, List, Option}
use Rattle.ic_base.specs.declared.messages.ComId.{ComId}
use Rattle.def_step.specs.World as world
use Rattle.ic_disk.specs.declared.disk.Disk.{Ghosts}
use Rattle.ic_node.specs.Nodes.{node_with, disk_in, read_of, told_of}
use Rattle.ic_node.specs.declared.component.Component.{Component}

module _ {D : Type 0} {d : Ghosts D} where
  -- the component as the definitions have it
  abbrev pub node_of : Component D d → world.Node
  node_of x = node_with x.kept x.node

  -- its disk; a component outside has none
  abbrev pub disk_of : Component D d → Option D
  disk_of x = disk_in x.node

  -- which component of its program it is
  abbrev pub com_of : Component D d → ComId
  com_of x = x.«com»

  -- whether it makes no further step, since a refusal ended it
  abbrev pub is_over : Component D d → Bool
  is_over x = x.over

  -- the bytes that its disk reads
  abbrev pub file_of : Component D d → List ℕ
  file_of x = read_of d (disk_of x)

  -- its disk, if it has one, tells its bytes
  abbrev pub Tells : Component D d → Type 0
  Tells x = told_of d (disk_of x)
