-- The calls on a component, and what is told of them.
use Rattle.std.specs.Prelude.{ℕ, List, [], None}
use Rattle.ic_base.specs.declared.events.Answer.{Answer}
use Rattle.ic_base.specs.declared.events.Answer.TheVariants as answers
use Rattle.ic_base.specs.declared.messages.ComId.{ComId}
use Rattle.ic_base.specs.declared.messages.Packet.{Packet}
use Rattle.ic_base.specs.declared.scenario.Program.{Program}
use Rattle.def_step.specs.Pcom as step
use Rattle.def_step.specs.World as world
use Rattle.ic_node.specs.declared.done.Call.{Call}
use Rattle.ic_node.specs.declared.done.Call.TheVariants.{Gives, Gets, Forces, Checkpoints, Resends, Emits}
use Rattle.ic_node.specs.declared.done.Done.{Done}

-- a call of the definition
abbrev pub call_of : Call → step.Call
call_of (Gives handler args) = step.Gives handler args
call_of (Gets packet) = step.Gets packet
call_of Forces = step.Forces
call_of Checkpoints = step.Checkpoints
call_of Resends = step.Resends
call_of Emits = step.Emits

-- what is told, with the component behind it
abbrev pub done_with : world.Node → Done → world.Done
done_with node d = record { node = node; answer = d.answer; puts = d.puts; shown = d.shown; aborted = d.aborted }

-- an answer, and nothing beside it
abbrev pub just_told : Answer → Done
just_told answer = record { answer = answer; puts = []; shown = None; aborted = None; played = 0 }

-- what is told of a packet that a Tcom served
abbrev pub told_served : Program → ComId → ℕ → Packet → List Packet → Done
told_served program c number p puts =
    record { answer = answers.Packet number p (world.tcom_fate program c p puts); puts = puts; shown = None; aborted = None; played = 0 }
