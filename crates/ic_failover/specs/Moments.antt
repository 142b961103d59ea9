-- What a run with a standby does, each with a number of its own: an event; an order that is answered with no step; a takeover.
use Rattle.std.specs.Prelude.{ℕ, suc, List, [], ◌∷◌, ◌++◌, Option, Some, None}
use Rattle.ic_base.specs.declared.events.Answer.TheVariants.{Idle}
use Rattle.ic_base.specs.declared.events.What.TheVariants.{Crash}
use Rattle.ic_base.specs.declared.messages.ComId.{ComId}
use Rattle.def_failover.specs.declared.note.Note.{Note}
use Rattle.def_run.specs.SystemStates.{SystemState, Transition, without_stop}
use Rattle.def_standby.specs.declared.orders.Order.{Order}
use Rattle.def_standby.specs.declared.orders.Order.TheVariants.{TakeOver}
use Rattle.ic_failover.specs.Carrying.{note_pieces, telling_for}
use Rattle.ic_failover.specs.declared.texts.FailoverTexts.{FailoverTexts}

pub data Moment : Type 0 where
  Did : (transition : Transition) → Moment
  Noted : (order : Order) (note : Note) → Moment
  Took : (note : Note) (state : SystemState) → Moment

-- A takeover among transitions: it leads to this state, and forces nothing, as a crash of its component forces nothing.
abbrev pub taken : ComId → SystemState → Transition
taken c q = record { trace = record { event = without_stop (Crash c); answer = Idle; puts = []; first_put = 0; shown = None; aborted = None }; state = q }

abbrev pub step_of : ComId → Moment → Option Transition
step_of c (Did v) = Some v
step_of c (Noted o note) = None
step_of c (Took note q) = Some (taken c q)

abbrev pub with_step : Option Transition → List Transition → List Transition
with_step None vs = vs
with_step (Some v) vs = v ∷ vs

-- the transitions among moments
abbrev pub done_in : ComId → List Moment → List Transition
done_in c [] = []
done_in c (m ∷ ms) = with_step (step_of c m) (done_in c ms)

abbrev pub pieces_at : FailoverTexts → ℕ → Moment → List (List ℕ)
pieces_at r number (Did v) = telling_for r number v.trace
pieces_at r number (Noted o note) = note_pieces r.policy.report number o note
pieces_at r number (Took note q) = note_pieces r.policy.report number TakeOver note

-- the pieces of moments in order, numbered from this one on
abbrev pub moment_pieces : FailoverTexts → ℕ → List Moment → List (List ℕ)
moment_pieces r number [] = []
moment_pieces r number (m ∷ ms) = pieces_at r number m ++ moment_pieces r (suc number) ms
