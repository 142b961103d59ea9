-- What an event asks of one component, and what that makes of it.
use Rattle.std.specs.Prelude.{ℕ, Bool, Option, Some}
use Rattle.ic_base.specs.declared.messages.ComId.{ComId}
use Rattle.ic_base.specs.declared.events.Stop.{Stop}
use Rattle.ic_base.specs.declared.scenario.Program.{Program}
use Rattle.def_step.specs.Pcom.{Call}
use Rattle.def_step.specs.World.{Node, DiskOutcome, Done, does, does_or_stops, crashes, recovers}
use Rattle.ic_node.specs.DeviceCalls.{done_calls, recovery_calls}

-- a call with the number of its packet, or 0; a crash; a recovery
pub data Work : Type 0 where
  Calls : (number : ℕ) (call : Call) → Work
  Crashes : Work
  Recovers : Work

-- what the work makes of the component
abbrev pub work_done : Program → ComId → Option Stop → DiskOutcome → Node → Work → Option Done
work_done program c stop x node (Calls number call) = does_or_stops program c node stop x number call
work_done program c stop x node Crashes = Some (crashes node)
work_done program c stop x node Recovers = recovers program c stop x node

-- the device calls of the work without a stop, by whether a slot of the log's directory is free; a crash makes none
abbrev pub work_calls : Program → ComId → Node → Work → Bool → ℕ
work_calls program c node (Calls number call) free = done_calls node (does program c node number call) free
work_calls program c node Crashes free = 0
work_calls program c node Recovers free = recovery_calls program c node
