-- The serial phase does all that is left of the lists, each event once and in order.
use Rattle.std.specs.Prelude.{◌≡◌, ◌⊎◌, ℕ, List, [], ◌∷◌, Option, Some, None, option_map}
use Rattle.ic_base.specs.declared.messages.ComId.{ComId}
use Rattle.ic_base.specs.declared.events.Event.{Event}
use Rattle.ic_base.specs.declared.scenario.Program.{Program}
use Rattle.def_step.specs.Settle.{PolicyIntervals, asked_of, settling_event}
use Rattle.def_run.specs.Executions.{IsComplete}
use Rattle.def_run.specs.SystemStates.{SystemState, Transition, without_stop}
use Rattle.def_live.specs.Serial.{agenda_left}

-- These transitions do the events of a list, each once and in order. What else they do is what the policy asks of the component of the event
-- before, or what settles the world.
abbrev pub DoAll : PolicyIntervals → List Event → SystemState → Option ComId → List Transition → Type 0
DoAll x events p last [] = events ≡ []
DoAll x events p last (v ∷ vs) =
    ((rest : List Event) × (events ≡ v.trace.event ∷ rest) × DoAll x rest v.state (asked_of v.trace.event.what v.trace.answer) vs)
    ⊎ ((option_map without_stop (settling_event p.world x last) ≡ Some v.trace.event) × DoAll x events v.state (asked_of v.trace.event.what v.trace.answer) vs)

abbrev pub SerialPhasesDoAll : Type 0
SerialPhasesDoAll = (program : Program) (fingerprint : List ℕ) (x : PolicyIntervals) (events : List Event) (p : SystemState) (vs : List Transition) → IsComplete program fingerprint x (agenda_left events) p vs → DoAll x events p None vs
