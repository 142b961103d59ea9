-- The choices of a turn and what a policy asks for, as the program has them.
use Rattle.std.specs.Prelude.{ℕ, List, [], ◌∷◌, Option, option_map}
use Rattle.ic_base.specs.declared.events.Answer.{Answer}
use Rattle.ic_base.specs.declared.events.Event.{Event}
use Rattle.ic_base.specs.declared.events.What.{What}
use Rattle.ic_base.specs.declared.messages.ComId.{ComId}
use Rattle.ic_base.specs.declared.messages.Packet.{Packet}
use Rattle.ic_base.specs.declared.report.Policy.{Policy}
use Rattle.ic_base.specs.declared.scenario.Program.{Program}
use Rattle.def_run.specs.Executions.{first_of}
use Rattle.def_step.specs.Settle.{PolicyIntervals}
use Rattle.def_step.specs.World.{Node}
use Rattle.def_live.specs.Turns as definition
use Rattle.def_live.specs.Turns.{listed, unasked}
use Rattle.ic_turn.specs.declared.choice.Choice.{Choice}
use Rattle.ic_turn.specs.declared.choice.Choice.TheVariants.{Unlisted, Brings, Lists}

-- the choice of the definitions
abbrev pub choice_of : Choice → definition.Choice
choice_of (Unlisted what) = definition.Unlisted what
choice_of (Brings packet) = definition.Brings packet
choice_of (Lists event) = definition.Lists event

-- how often a policy forces and makes checkpoints
abbrev pub intervals_of : Policy → PolicyIntervals
intervals_of p = record { force_every = p.force_every; checkpoint_every = p.checkpoint_every }

-- the answer of an event of the list is kept
abbrev pub answers_kept : definition.Choice → Answer → List Answer
answers_kept (definition.Lists e) a = a ∷ []
answers_kept _ a = []

-- the choice at a turn of this number, on what the policy asks for and what was brought
abbrev pub next_of : Program → ComId → Node → ℕ → List Event → Option What → Option Packet → Option definition.Choice
next_of program c node number left asked came =
    first_of (option_map definition.Unlisted asked)
    (first_of (option_map definition.Brings came)
    (first_of (option_map definition.Lists (listed node left)) (option_map definition.Unlisted (unasked program c node number))))
