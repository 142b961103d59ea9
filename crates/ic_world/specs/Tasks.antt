-- What an event asks of one component; or what it is answered where it asks nothing of any.
use Rattle.std.specs.Prelude.{ℕ, Bool, Option, Some, None, option_map, option_and_then}
use Rattle.ic_base.specs.declared.messages.ComId.{ComId}
use Rattle.ic_base.specs.declared.messages.Packet.{Packet}
use Rattle.ic_base.specs.declared.events.Answer.{Answer}
use Rattle.ic_base.specs.declared.events.Answer.TheVariants as answers
use Rattle.ic_base.specs.declared.events.Event.{Event}
use Rattle.ic_base.specs.declared.events.Fate.TheVariants as fates
use Rattle.ic_base.specs.declared.events.What.{What}
use Rattle.ic_base.specs.declared.events.What.TheVariants.{Input, Deliver, Lose, Packet as Numbered, Force, Checkpoint, Resend, Emit, Crash, Recover}
use Rattle.ic_base.specs.declared.scenario.Program.{Program}
use Rattle.def_step.specs.Packets.{receiver_of}
use Rattle.def_step.specs.Pcom.{Gives, Gets, Forces, Checkpoints, Resends, Emits}
use Rattle.def_step.specs.World.{World, Node, DiskOutcome, After, node_at, packet_at, oldest_of, takes_off, behind, unchanged}
use Rattle.ic_work.specs.Tasks.{Work, Calls, Crashes, Recovers, work_done, work_calls}

-- the work of a component, in a world where a delivered packet waits no longer; or the answer, in a world where a lost one doesn't
pub data Task : Type 0 where
  Asks : (w : World) (c : ComId) (work : Work) → Task
  Answers : (w : World) (answer : Answer) → Task

abbrev pub delivered : World → ℕ → Option Packet → Task
delivered w i None = Answers w answers.Unknown
delivered w i (Some p) = Asks (takes_off w i) (receiver_of p) (Calls i (Gets p))

abbrev pub oldest_delivered : World → Option ℕ → Task
oldest_delivered w None = Answers w answers.Empty
oldest_delivered w (Some i) = delivered w i (packet_at w i)

abbrev pub lost : World → ℕ → Option Packet → Task
lost w i None = Answers w answers.Empty
lost w i (Some p) = Answers (takes_off w i) (answers.Packet i p fates.Lost)

abbrev pub oldest_lost : World → Option ℕ → Task
oldest_lost w None = Answers w answers.Empty
oldest_lost w (Some i) = lost w i (packet_at w i)

abbrev pub task_of : World → What → Task
task_of w (Input c handler args) = Asks w c (Calls 0 (Gives handler args))
task_of w (Deliver from to) = oldest_delivered w (oldest_of w from to)
task_of w (Lose from to) = oldest_lost w (oldest_of w from to)
task_of w (Numbered i) = delivered w i (packet_at w i)
task_of w (Force c) = Asks w c (Calls 0 Forces)
task_of w (Checkpoint c) = Asks w c (Calls 0 Checkpoints)
task_of w (Resend c) = Asks w c (Calls 0 Resends)
task_of w (Emit c) = Asks w c (Calls 0 Emits)
task_of w (Crash c) = Asks w c Crashes
task_of w (Recover c) = Asks w c Recovers

-- what the task makes of the world
abbrev pub task_done : Program → Event → DiskOutcome → Task → Option After
task_done program e x (Asks w c work) = option_map (behind w e c) (option_and_then (λ node. work_done program c e.stop x node work) (node_at w c))
task_done program e x (Answers w answer) = Some (unchanged w e answer)

-- the device calls of the work of a component, if it is there, by whether a slot of its log's directory is free
abbrev pub node_calls : Program → ComId → Work → Option Node → Bool → ℕ
node_calls program c work None free = 0
node_calls program c work (Some node) free = work_calls program c node work free

-- the device calls that a task asks of the disk of its component
abbrev pub task_calls : Program → Task → Bool → ℕ
task_calls program (Asks w c work) free = node_calls program c work (node_at w c) free
task_calls program (Answers w answer) free = 0

-- the device calls of the step of an event without its stop, which are those of its task
abbrev pub event_calls : Program → World → What → Bool → ℕ
event_calls program w what = task_calls program (task_of w what)
