-- A run as one list of transitions: what is still to be done, which event is next, and how far it came.
use Rattle.std.specs.Prelude.{◌≡◌, ℕ, ◌+◌, Bool, true, false, ◌&&◌, cond, List, [], ◌∷◌, Option, Some, None, option_map}
use Rattle.ic_base.specs.declared.messages.ComId.{ComId}
use Rattle.ic_base.specs.declared.events.Event.{Event}
use Rattle.ic_base.specs.declared.events.What.{What}
use Rattle.ic_base.specs.declared.events.What.TheVariants as whats
use Rattle.ic_base.specs.declared.events.Trace.{Trace}
use Rattle.ic_base.specs.declared.scenario.Program.{Program}
use Rattle.def_step.specs.World.{World}
use Rattle.def_step.specs.Calls.{receives}
use Rattle.def_step.specs.Settle.{PolicyIntervals, asked_of, policy_for, next_event}
use Rattle.def_run.specs.SystemStates.{SystemState, Transition, last_state, without_stop}
use Rattle.def_run.specs.CoreSteps.{CoreStep}

-- What is still to be done: the events of the schedule that are left, whether `halt` ends it, whether the world is settled before
-- each input that is left, and the component of the event before.
pub record Agenda : Type 0 where
  pub left : List Event
  pub halts : Bool
  pub settles_first : Bool
  pub last : Option ComId

-- the event that is next, and the events of the schedule that are left behind it
pub record Next : Type 0 where
  pub event : Event
  pub left : List Event

-- the first of two that is there
abbrev pub first_of : {A : Type 0} → Option A → Option A → Option A
first_of None other = other
first_of (Some x) other = Some x

abbrev pub without_taking : List Event → What → Next
without_taking left what = record { event = without_stop what; left = left }

-- what settles the world
abbrev pub settling : World → List Event → Option Next
settling w left = option_map (without_taking left) (next_event w)

abbrev pub is_input : What → Bool
is_input (whats.Input c handler args) = true
is_input _ = false

-- the next event of the schedule
abbrev pub scheduled : World → Bool → Event → List Event → Option Next
scheduled w settles_first e left =
    first_of (cond (settles_first && is_input e.what) (settling w (e ∷ left)) None) (Some (record { event = e; left = left }))

-- behind the schedule the world is settled, unless the run halts
abbrev pub unless_asked : World → Agenda → Option Next
unless_asked w a = elim a.left [
  | e ∷ left ↦ scheduled w a.settles_first e left
  | [] ↦ cond a.halts None (settling w [])
]

-- what is next: what the policy asks for behind the event before; else the schedule's next event; else what settles
abbrev pub next : World → PolicyIntervals → Agenda → Option Next
next w x a = first_of (option_map (without_taking a.left) (policy_for w x a.last)) (unless_asked w a)

-- the agenda behind an event
abbrev pub agenda_behind : Agenda → List Event → Trace → Agenda
agenda_behind a left t = record a { left = left; last = asked_of t.event.what t.answer }

-- a schedule that is still to be done
abbrev pub whole_agenda : List Event → Bool → Agenda
whole_agenda events halts = record { left = events; halts = halts; settles_first = false; last = None }

-- Transitions one after another, each a core step of the event that is next. Behind them the agenda `b` is left.
abbrev pub Executes : Program → List ℕ → PolicyIntervals → Agenda → SystemState → List Transition → Agenda → Type 0
Executes program fingerprint x a p [] b = a ≡ b
Executes program fingerprint x a p (v ∷ vs) b =
    (left : List Event) × (next p.world x a ≡ Some (record { event = v.trace.event; left = left }))
    × CoreStep program fingerprint p v.trace.event v.trace v.state × Executes program fingerprint x (agenda_behind a left v.trace) v.state vs b

-- a run that did all that was to be done
pub record IsComplete (program : Program) (fingerprint : List ℕ) (x : PolicyIntervals) (a : Agenda) (p : SystemState) (vs : List Transition) : Type 0 where
  pub agenda : Agenda
  pub executes : Executes program fingerprint x a p vs agenda
  pub nothing : next (last_state p vs).world x agenda ≡ None

-- the inputs and messages that steps of these transitions received, those that a stop lost among them
abbrev pub received_in : Program → SystemState → List Transition → ℕ
received_in program p [] = 0
received_in program p (v ∷ vs) = cond (receives program p.world v.trace.event.what) 1 0 + received_in program v.state vs
