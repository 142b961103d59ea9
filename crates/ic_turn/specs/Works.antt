-- What an event of a berth asks of its component.
use Rattle.std.specs.Prelude.{Option, Some, None}
use Rattle.ic_base.specs.declared.messages.ComId.{ComId}
use Rattle.ic_base.specs.declared.events.What.{What}
use Rattle.ic_base.specs.declared.events.What.TheVariants as whats
use Rattle.def_step.specs.Calls.{Called, called}
use Rattle.def_step.specs.Pcom.{Gives, Gets, Forces, Checkpoints, Resends, Emits}
use Rattle.def_live.specs.Turns.{Choice, Unlisted, Brings, Lists}
use Rattle.ic_work.specs.Tasks.{Work, Calls, Crashes, Recovers}

-- the work of an event of the component; none of a delivery or a loss
abbrev pub asked_by : What → Option Work
asked_by (whats.Input c handler args) = Some (Calls 0 (Gives handler args))
asked_by (whats.Force c) = Some (Calls 0 Forces)
asked_by (whats.Checkpoint c) = Some (Calls 0 Checkpoints)
asked_by (whats.Resend c) = Some (Calls 0 Resends)
asked_by (whats.Emit c) = Some (Calls 0 Emits)
asked_by (whats.Crash c) = Some Crashes
asked_by (whats.Recover c) = Some Recovers
asked_by _ = None

-- a packet that is brought is the only one of its world, and so the first
abbrev pub work_of : Choice → Option Work
work_of (Unlisted what) = asked_by what
work_of (Brings packet) = Some (Calls 1 (Gets packet))
work_of (Lists event) = asked_by event.what

abbrev pub called_by : ComId → Work → Option Called
called_by c (Calls number call) = Some (called c call)
called_by c _ = None
