-- The call that an event makes on its component, and what the step of that call would pass.
use Rattle.std.specs.Prelude.{ℕ, Bool, true, false, not, ◌&&◌, Option, Some, None, option_map, option_and_then}
use Rattle.ic_base.specs.declared.messages.ComId.{ComId}
use Rattle.ic_base.specs.declared.messages.Packet.{Packet}
use Rattle.ic_base.specs.declared.events.What.{What}
use Rattle.ic_base.specs.declared.events.What.TheVariants.{Input, Deliver, Packet as Numbered, Force, Checkpoint, Resend, Emit}
use Rattle.ic_base.specs.declared.scenario.Program.{Program}
use Rattle.def_step.specs.Packets.{receiver_of}
use Rattle.def_step.specs.Pcom.{Call, Gives, Gets, Forces, Checkpoints, Resends, Emits, StepKind, Took, is_replaying, decide, is_full}
use Rattle.def_step.specs.Tcom.{is_tcom_full}
use Rattle.def_step.specs.World.{World, Node, Runs, Serves, node_at, packet_at, oldest_of}

-- a component with the call on it
pub record Called : Type 0 where
  pub who : ComId
  pub call : Call

abbrev pub called : ComId → Call → Called
called c call = record { who = c; call = call }

abbrev pub delivery_of : Packet → Called
delivery_of p = called (receiver_of p) (Gets p)

-- the call of an event; none of a loss, a crash, a recovery, or a delivery that finds no packet
abbrev pub call_of : World → What → Option Called
call_of w (Input c handler args) = Some (called c (Gives handler args))
call_of w (Deliver from to) = option_map delivery_of (option_and_then (packet_at w) (oldest_of w from to))
call_of w (Numbered i) = option_map delivery_of (packet_at w i)
call_of w (Force c) = Some (called c Forces)
call_of w (Checkpoint c) = Some (called c Checkpoints)
call_of w (Resend c) = Some (called c Resends)
call_of w (Emit c) = Some (called c Emits)
call_of w _ = None

abbrev pub takes_one : StepKind → Bool
takes_one Took = true
takes_one _ = false

-- the step of this call would receive an input or a new message, whatever a stop then does
abbrev pub node_receives : Program → ComId → Call → Node → Bool
node_receives program c call (Runs p) = not (is_replaying p) && takes_one (decide program c p call).word
node_receives program c call _ = false

abbrev pub call_receives : Program → World → Called → Bool
call_receives program w x = elim (node_at w x.who) [ None ↦ false | Some node ↦ node_receives program x.who x.call node ]

abbrev pub receives : Program → World → What → Bool
receives program w what = elim (call_of w what) [ None ↦ false | Some x ↦ call_receives program w x ]

-- the step of this call would pass the limit of the component's log, which has this size on its disk, or of a number
abbrev pub node_is_full : Program → ComId → Call → ℕ → Node → Bool
node_is_full program c call size (Runs p) = is_full program c size p call
node_is_full program c (Gets packet) size (Serves x) = is_tcom_full program c size x packet
node_is_full program c _ size _ = false
