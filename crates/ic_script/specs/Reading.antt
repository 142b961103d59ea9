-- What reading a line comes to, and how a text is refused.
use Rattle.std.specs.Prelude.{◌≡◌, ⊤, ℕ, ◌<◌, ◌≤◌, ◌^◌, false, List, [], ◌++◌, length, map, bytes_eq, Option, Some, None, Result, Ok, Err}
use Rattle.std.specs.List.{AllByRecursion}
use Rattle.ic_base.specs.declared.refusals.Cause.{Cause}
use Rattle.ic_base.specs.declared.refusals.Cause.TheVariants as causes
use Rattle.ic_base.specs.declared.events.Stop.{Stop}
use Rattle.ic_base.specs.declared.refusals.ScenarioRefused.{ScenarioRefused}
use Rattle.def_syntax.specs.Scenario.{Refusal}
use Rattle.ic_tokens.specs.declared.scan.LineRefused.{LineRefused}
use Rattle.ic_tokens.specs.declared.scan.LineRefused.TheVariants as lines
use Rattle.def_two.specs.declared.script.Event2.{Event2}
use Rattle.def_two.specs.declared.script.Script.{Script}
use Rattle.def_two.specs.Script as script
use Rattle.def_two.specs.Moves.{Openings}
use Rattle.def_two.specs.Runs.{IsEvent2}
use Rattle.def_two.specs.Script.{NamedBook, Read, ScriptLine, TheScript}
use Rattle.ic_script.specs.declared.so_far.SoFar.{SoFar}
use Rattle.ic_script.specs.Views.{read_so_far}

-- the script with its names
abbrev pub the_script : Script → TheScript
the_script s = record { books = s.books; events = s.events }

-- a row has at most 64 values, each of 64 bits
pub record IsRow (b : NamedBook) : Type 0 where
  pub short : length b.1 ≤ 64
  pub fit : AllByRecursion (λ n. n < 2 ^ 64) b.1

-- a stop's device call is counted from 1
abbrev pub StopCounts : Option Stop → Type 0
StopCounts None = ⊤
StopCounts (Some s) = 1 ≤ s.call

-- what a line may say, whatever the books: a row of at most 64 values, a move of something between two names
abbrev pub IsWritten : ScriptLine → Type 0
IsWritten (script.BookOf name values) = length values ≤ 64
IsWritten (script.MoveOf from source to target amount s) = (bytes_eq from to ≡ false) × (1 ≤ amount) × (amount < 2 ^ 64) × StopCounts s
IsWritten (script.DeliverOf from to s) = StopCounts s
IsWritten (script.LoseOf from to) = ⊤
IsWritten (script.PacketOf n s) = StopCounts s
IsWritten (script.CrashOf name) = ⊤
IsWritten (script.ResendOf name) = ⊤
IsWritten (script.RecoverOf name s) = StopCounts s

-- the opening values of the books
abbrev pub openings_in : List NamedBook → Openings
openings_in books = map (λ b. b.1) books

-- what was read passes no limit, and its events are lawful for its books
pub record IsSound (x : SoFar) : Type 0 where
  pub few : length x.books ≤ 8
  pub moves : x.moves ≤ 10000
  pub rows : AllByRecursion IsRow x.books
  pub before : x.in_events ≡ false → x.events ≡ []
  pub lawful : AllByRecursion (IsEvent2 (openings_in x.books)) x.events

-- what a line gives, behind these events
abbrev pub in_front : List Event2 → Result Read Cause → Result Read Cause
in_front events (Ok x) = Ok (x.0, events ++ x.1)
in_front events (Err cause) = Err cause

-- the line is read: its book or its event is taken in
abbrev pub Takes : Result Read Cause → SoFar → SoFar → Type 0
Takes given old new = in_front old.events given ≡ Ok (read_so_far new, new.events)

-- a line is refused for this; want of memory says nothing of it
abbrev pub RefusedBy : {X : Type 0} → Result X Cause → Cause → Type 0
RefusedBy given causes.Memory = Unit {0}
RefusedBy given cause = given ≡ Err cause

-- the cause of a line without tokens
abbrev pub StandsFor : LineRefused → Cause → Type 0
StandsFor lines.NotText cause = cause ≡ causes.NotText
StandsFor lines.Word cause = cause ≡ causes.Word
StandsFor lines.Memory cause = cause ≡ causes.Memory

-- the reading of a text comes to this line and cause; want of memory says nothing of the text
abbrev pub RefusedAt : {X : Type 0} → Result X Refusal → ℕ → Cause → Type 0
RefusedAt read line causes.Memory = line ≡ 0
RefusedAt read line cause = read ≡ Err (line, cause)

abbrev pub IsRefusedAs : {X : Type 0} → Result X Refusal → ScenarioRefused → Type 0
IsRefusedAs read e = RefusedAt read e.line e.cause

-- the line of a refusal for this cause
abbrev pub line_for : ℕ → Cause → ℕ
line_for line causes.Memory = 0
line_for line _ = line
