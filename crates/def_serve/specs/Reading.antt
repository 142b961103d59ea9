-- What a line that is served asks for, or the first cause for which it is refused. Its forms are those of a schedule, none with a stop.
use Rattle.std.specs.Prelude.{ℕ, List, [], ◌∷◌, Option, Some, None, option_map, ok_or, Result, Ok, Err, codes}
use Rattle.ic_base.specs.declared.events.Event.{Event}
use Rattle.ic_base.specs.declared.events.What.{What}
use Rattle.ic_base.specs.declared.events.What.TheVariants as whats
use Rattle.ic_base.specs.declared.refusals.Cause.{Cause}
use Rattle.ic_base.specs.declared.refusals.Cause.TheVariants.{Structure, Unknown}
use Rattle.ic_base.specs.declared.scenario.Program.{Program}
use Rattle.def_client.specs.Fronts.{Request}
use Rattle.def_syntax.specs.Schedule.{EventLine, InputOf, input_of, request_of, com_of, is_inside, is_pcom, named_from, input_at}
use Rattle.def_syntax.specs.SyntaxLines.{name_in, one_name}
use Rattle.def_syntax.specs.Text.{◌>>=◌, Token, look_up, schedule_tokens_of}
use Rattle.def_serve.specs.Lines.{Line, Asks, Gives, Checkpoints, Values}

-- the request that an input is
abbrev pub request_in : What → Option Request
request_in (whats.Input c handler args) = Some (record { who = c; handler = handler; args = args })
request_in _ = None

abbrev pub request_of_events : List Event → Option Request
request_of_events (e ∷ []) = request_in e.what
request_of_events _ = None

-- the request of an input without a stop
abbrev pub request_at : Program → Option EventLine → Result Request Cause
request_at p (Some (InputOf name handler args, None)) = do
  events ← input_at None args handler (named_from 0 is_pcom name p.components)
  ok_or (request_of_events events) Unknown
request_at p _ = Err Structure

-- the line of a request, of this kind
abbrev pub line_of : (Request → Line) → Result Request Cause → Result Line Cause
line_of kind (Ok r) = Ok (kind r)
line_of kind (Err cause) = Err cause

-- a checkpoint of the component with this name, which is no Xcom
abbrev pub checkpoint_at : Program → Option (List ℕ) → Result Line Cause
checkpoint_at p None = Err Structure
checkpoint_at p (Some name) = ok_or (option_map Checkpoints (com_of p is_inside name)) Unknown

-- what stands behind the first word of a line
abbrev pub Form : Type 0
Form = Program → List Token → Result Line Cause

abbrev pub gives_line : Form
gives_line p ts = line_of Gives (request_at p (input_of ts))

abbrev pub asks_line : Form
asks_line p ts = line_of Asks (request_at p (request_of ts))

abbrev pub checkpoint_line : Form
checkpoint_line p ts = checkpoint_at p (one_name ts)

abbrev pub values_line : Form
values_line p [] = Ok Values
values_line p (t ∷ ts) = Err Structure

-- each first word, with its form
abbrev pub served_forms : List (List ℕ × Form)
served_forms = (codes "input", gives_line) ∷ (codes "client", asks_line) ∷ (codes "checkpoint", checkpoint_line) ∷ (codes "values", values_line) ∷ []

-- the line that has this word first
unfoldable pub line_with : Program → List ℕ → List Token → Result Line Cause
line_with p word ts = do
  form ← ok_or (look_up word served_forms) Structure
  form p ts

-- what tokens ask for; nothing, where there are none
abbrev pub token_line : Program → List Token → Result (Option Line) Cause
token_line p [] = Ok None
token_line p (t ∷ ts) = do
  word ← ok_or (name_in t) Structure
  line ← line_with p word ts
  Ok (Some line)

-- what the bytes of a line ask for
unfoldable pub served_line : Program → List ℕ → Result (Option Line) Cause
served_line p line = do
  ts ← schedule_tokens_of line
  token_line p ts
