-- The work of a component, as the program has it.
use Rattle.std.specs.Prelude.{Bool, false, List, None}
use Rattle.ic_base.specs.declared.messages.ComId.{ComId}
use Rattle.ic_base.specs.declared.record.Record.{Record}
use Rattle.ic_base.specs.declared.scenario.Program.{Program}
use Rattle.def_step.specs.Calls.{node_receives}
use Rattle.def_step.specs.World.{Node, DiskOutcome}
use Rattle.ic_node.specs.Calling.{call_of}
use Rattle.ic_node.specs.Meeting.{adds_in}
use Rattle.ic_work.specs.Tasks as tasks
use Rattle.ic_work.specs.Tasks.{work_done}
use Rattle.ic_work.specs.declared.work.Work.{Work}
use Rattle.ic_work.specs.declared.work.Work.TheVariants.{Calls, Crashes, Recovers}

-- the work of the definitions
abbrev pub work_of : Work → tasks.Work
work_of (Calls number call) = tasks.Calls number (call_of call)
work_of Crashes = tasks.Crashes
work_of Recovers = tasks.Recovers

-- what a load reads where the disk holds the forced records
abbrev pub adds_of : Program → ComId → Node → DiskOutcome → tasks.Work → List Record
adds_of program c node x work = adds_in node (work_done program c None x node work)

-- whether the work receives something
abbrev pub work_receives : Program → ComId → tasks.Work → Node → Bool
work_receives program c (tasks.Calls number call) node = node_receives program c call node
work_receives program c work node = false
