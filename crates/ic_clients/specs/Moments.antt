-- What a run with clients tells, each with a number of its own: events, and requests that are answered with no step; and the events that
-- were done.
use Rattle.std.specs.Prelude.{ℕ, suc, List, [], ◌∷◌, ◌++◌, map}
use Rattle.ic_base.specs.declared.events.Event.{Event}
use Rattle.ic_base.specs.declared.report.ReportLevel.{ReportLevel}
use Rattle.ic_base.specs.declared.scenario.Program.{Program}
use Rattle.def_client.specs.Clients.{Item, Asks, Plain, input_for, item_of, item_lines, note_lines}
use Rattle.def_client.specs.Fronts.{Front}
use Rattle.def_client.specs.declared.asked.Asked.{Asked}
use Rattle.def_rounds.specs.Rounds.{Round, Ran, Told, Leapt}
use Rattle.def_run.specs.SystemStates.{Transition}
use Rattle.ic_report.specs.Outputs.{if_any}
use Rattle.ic_run.specs.Running.{Telling}

pub data Moment : Type 0 where
  Did : (transition : Transition) → Moment
  Noted : (item : Item) (answer : Asked) → Moment

-- an event is told in the form of its item: an input as the request of a client
abbrev pub item_pieces : Program → ReportLevel → Telling
item_pieces program level number t = if_any (item_lines program level number (item_of t.event) t)

abbrev pub note_pieces : Program → ReportLevel → ℕ → Item → Asked → List (List ℕ)
note_pieces program level number i a = if_any (note_lines program level number i a)

abbrev pub pieces_at : Program → ReportLevel → ℕ → Moment → List (List ℕ)
pieces_at program level number (Did v) = item_pieces program level number v.trace
pieces_at program level number (Noted i a) = note_pieces program level number i a

-- the pieces of moments in order, numbered from this one on
abbrev pub moment_pieces : Program → ReportLevel → ℕ → List Moment → List (List ℕ)
moment_pieces program level number [] = []
moment_pieces program level number (m ∷ ms) = pieces_at program level number m ++ moment_pieces program level (suc number) ms

-- what a round tells of its item
abbrev pub moments_in : Item → Round Front Asked → List Moment
moments_in i (Ran vs) = map Did vs
moments_in i (Told a behind) = Noted i a ∷ []
moments_in i (Leapt a behind q) = Noted i a ∷ []

abbrev pub moments_of : List Item → List (Round Front Asked) → List Moment
moments_of (i ∷ is) (r ∷ rs) = moments_in i r ++ moments_of is rs
moments_of _ _ = []

-- the transitions among moments
abbrev pub done_in : List Moment → List Transition
done_in [] = []
done_in (Did v ∷ ms) = v ∷ done_in ms
done_in (Noted i a ∷ ms) = done_in ms

-- the moments before the next event behind these transitions, which were the first that were done
abbrev pub moments_before : List Moment → List Transition → List Moment
moments_before [] us = []
moments_before (Noted i a ∷ ms) us = Noted i a ∷ moments_before ms us
moments_before (Did v ∷ ms) [] = []
moments_before (Did v ∷ ms) (u ∷ us) = Did v ∷ moments_before ms us

-- the event of an item, where it is done
abbrev pub event_of : Item → Event
event_of (Asks r stop) = input_for r stop
event_of (Plain e) = e

-- the events of the items that were done in these rounds, in order
abbrev pub events_done : List Item → List (Round Front Asked) → List Event
events_done (i ∷ is) (Ran vs ∷ rs) = event_of i ∷ events_done is rs
events_done (i ∷ is) (r ∷ rs) = events_done is rs
events_done _ _ = []
