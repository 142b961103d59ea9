-- A run with numbered clients: its items, what becomes of each, and its lines.
use Rattle.std.specs.Prelude.{ℕ, ℤ, false, List, [], ◌∷◌, ◌++◌, map, codes, decimal, Option}
use Rattle.std.specs.Fmt.{signed_decimal}
use Rattle.ic_base.specs.declared.events.Event.{Event}
use Rattle.ic_base.specs.declared.events.Stop.{Stop}
use Rattle.ic_base.specs.declared.events.What.{What}
use Rattle.ic_base.specs.declared.events.What.TheVariants as whats
use Rattle.ic_base.specs.declared.events.Trace.{Trace}
use Rattle.ic_base.specs.declared.report.ReportLevel.{ReportLevel}
use Rattle.ic_base.specs.declared.report.ReportLevel.TheVariants as levels
use Rattle.ic_base.specs.declared.scenario.Program.{Program}
use Rattle.def_report.specs.Words.{spaced, line, name_of, handler_of, event_words, stop_words, answer_words}
use Rattle.def_report.specs.Lines.{put_lines, brief_lines}
use Rattle.def_rounds.specs.Rounds.{Turn, Happens, Ways, Answers}
use Rattle.def_step.specs.World.{World}
use Rattle.def_client.specs.declared.asked.Asked.{Asked}
use Rattle.def_client.specs.declared.asked.Asked.TheVariants.{New, Pending, Again, Differs}
use Rattle.def_client.specs.Fronts.{Request, Front, ask, saw}

-- an item of the schedule: a request, or an event that is none
pub data Item : Type 0 where
  Asks : (request : Request) → (stop : Option Stop) → Item
  Plain : (event : Event) → Item

-- an event of a schedule with clients, in which each input is a request
abbrev pub item_at : What → Event → Item
item_at (whats.Input c handler args) e = Asks (record { who = c; handler = handler; args = args }) e.stop
item_at _ e = Plain e

abbrev pub item_of : Event → Item
item_of e = item_at e.what e

abbrev pub input_for : Request → Option Stop → Event
input_for r stop = record { what = whats.Input r.who r.handler r.args; stop = stop }

-- only a new request is an event of the world
abbrev pub turn_of : Front → Request → Option Stop → Asked → Turn Front Asked
turn_of front r stop New = Happens (input_for r stop)
turn_of front r stop answer = Answers answer front

abbrev pub turn : World → Front → Item → Turn Front Asked
turn w front (Asks r stop) = turn_of front r stop (ask front r)
turn w front (Plain e) = Happens e

-- each event with what the policy asks for; no step is of another kind
abbrev pub clients : Ways Item Front Asked
clients = record { turn = turn; settles = false; saw = saw; leap = λ s p note q. ⊥ }

-- lines -----------------------------------------------------------------------------------------------

-- a request in the form of its schedule: its numbers stand first
abbrev pub request_words : Program → Request → List ℤ → List (List ℕ)
request_words p r (u ∷ q ∷ rest) = codes "client" ∷ signed_decimal u ∷ signed_decimal q ∷ name_of p r.who ∷ handler_of p r.who r.handler ∷ map signed_decimal rest
request_words p r _ = []

abbrev pub item_words : Program → Item → List (List ℕ)
item_words p (Asks r stop) = request_words p r r.args ++ stop_words stop
item_words p (Plain e) = event_words p e

abbrev pub asked_words : Asked → List (List ℕ)
asked_words New = []
asked_words Pending = codes "pending" ∷ []
asked_words (Again m args) = codes "again" ∷ decimal m ∷ map signed_decimal args
asked_words Differs = codes "differs" ∷ []

-- the line of a number, with what is answered
abbrev pub numbered_line : ℕ → List (List ℕ) → List (List ℕ) → List ℕ
numbered_line number words answer = spaced (decimal number ∷ words) ++ codes ": " ++ line answer

-- the lines of an item's event: as those of any event, in the item's own form
abbrev pub item_lines : Program → ReportLevel → ℕ → Item → Trace → List ℕ
item_lines p levels.Full number i t = numbered_line number (item_words p i) (answer_words p t.answer) ++ put_lines p t.first_put t.puts ++ brief_lines p t
item_lines p levels.Brief number i t = brief_lines p t
item_lines p levels.Summary number i t = []

-- what is told with no step stands at the level full
abbrev pub note_lines : Program → ReportLevel → ℕ → Item → Asked → List ℕ
note_lines p levels.Full number i a = numbered_line number (item_words p i) (asked_words a)
note_lines p _ number i a = []
