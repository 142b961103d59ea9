-- What a component with a disk is at the beginning of a run, over a log without a record.
use Rattle.std.specs.Prelude.{◌≡◌, true, [], Some, slice_get}
use Rattle.ic_base.specs.declared.messages.ComId.{ComId}
use Rattle.ic_base.specs.declared.scenario.Component.{Component as Declared}
use Rattle.ic_base.specs.declared.scenario.Program.{Program}
use Rattle.def_run.specs.CoreSteps.{forced_of}
use Rattle.def_step.specs.World.{first_node}
use Rattle.ic_disk.specs.declared.disk.Disk.{Ghosts}
use Rattle.ic_gate.specs.Logs as logs
use Rattle.ic_gate.specs.declared.log.Log.{Log}
use Rattle.ic_gate.specs.declared.refusals.LoadRefused.{LoadRefused}
use Rattle.ic_gate.specs.declared.refusals.LoadWhy.TheVariants.{Memory}
use Rattle.ic_node.specs.Nodes.{node_with, disk_in}
use Rattle.ic_node.specs.Sittings.{AreWritable}
use Rattle.ic_node.specs.Standing.{is_open, com_in}
use Rattle.ic_node.specs.declared.node.Node.{Node}

-- it is up as its program declares it, and is this component
pub record IsFirst {D : Type 0} (d : Ghosts D) (program : Program) (c : ComId) (on : Log D d) (node : Node D d) : Type 0 where
  pub first : (declared : Declared) → slice_get program.components c.0 ≡ Some declared → node_with [] node ≡ first_node program c declared.kind
  pub none : forced_of (Some (node_with [] node)) ≡ []
  pub which : com_in c node ≡ c
  pub disk : disk_in node ≡ Some (logs.disk_of on)
  pub open_now : is_open node ≡ true
  pub fits : AreWritable node

-- memory alone is wanting, and the log's disk is handed back
pub record IsForMemory {D : Type 0} {d : Ghosts D} (log : Log D d) (refused : LoadRefused D) : Type 0 where
  pub why : refused.why ≡ Memory
  pub disk : refused.disk ≡ logs.disk_of log
