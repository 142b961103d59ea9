-- The definitions on two small scripts.
use Rattle.std.specs.Prelude.{◌≡◌, refl, ℕ, zero, suc, true, List, [], ◌∷◌, ◌++◌, Option, Some, None, Ok, Err, codes, unwrap_or}
use Rattle.ic_base.specs.declared.events.Fill.TheVariants.{Old}
use Rattle.ic_base.specs.declared.refusals.Cause.TheVariants.{Structure, Twice, Unknown}
use Rattle.std.specs.Fmt.{digits}
use Rattle.def_syntax.specs.Text.{lines_of, pieces, token_with}
use Rattle.def_two.specs.declared.script.Event2.{Event2}
use Rattle.def_two.specs.declared.script.What2.{What2}
use Rattle.def_two.specs.declared.script.What2.TheVariants as whats
use Rattle.def_two.specs.Moves.{Openings}
use Rattle.def_two.specs.World.{World2, DiskOutcome2, log_at, happens2, next_event2, first_world2}
use Rattle.def_two.specs.Runs.{call_of, would_add}
use Rattle.def_two.specs.Script.{TheScript, script_of, reads_lines, reads_line, line_of, openings_of}
use Rattle.def_two.specs.Printed.{two_lines}

abbrev text_line : List ℕ → List ℕ
text_line words = words ++ 10 ∷ []

-- two moves of 7 over 10 and 0
abbrev pub two_moves : List ℕ
two_moves = text_line (codes "book east 10") ++ text_line (codes "book west 0") ++ text_line (codes "move east 0 west 0 7") ++ text_line (codes "move east 0 west 0 7")

abbrev the_move : What2
the_move = whats.Move 1 0 2 0 7

abbrev books : List (List ℕ × List ℕ)
books = (codes "east", 10 ∷ []) ∷ (codes "west", 0 ∷ []) ∷ []

abbrev plainly : What2 → Event2
plainly what = record { what = what; stop = None }

pub two_moves-read : script_of two_moves ≡ Ok (record { books = books; events = plainly the_move ∷ plainly the_move ∷ [] })
unfolding script_of reads_lines reads_line line_of lines_of pieces token_with
two_moves-read = refl

-- one move, a stop in the second write of a book's force, and a crash of the chief
abbrev pub with_stop : List ℕ
with_stop = text_line (codes "book east 10") ++ text_line (codes "book west 0") ++ text_line (codes "move east 0 west 0 7") ++ text_line (codes "deliver chief east stop 3 1") ++ text_line (codes "crash chief")

abbrev stop_events : List Event2
stop_events = plainly the_move ∷ record { what = whats.Deliver 0 1; stop = Some (record { call = 3; keep = 1; fill = Old }) } ∷ plainly (whats.Crash 0) ∷ []

pub with_stop-read : script_of with_stop ≡ Ok (record { books = books; events = stop_events })
unfolding script_of reads_lines reads_line line_of lines_of pieces token_with
with_stop-read = refl

-- refused: no text, a move before the books, a book named twice, a fixed word as a name, a key that isn't there, one below 0, one name for both
pub none-refused : script_of [] ≡ Err (1, Structure)
unfolding script_of reads_lines reads_line line_of lines_of pieces token_with
none-refused = refl

pub early-refused : script_of (text_line (codes "crash chief")) ≡ Err (1, Structure)
unfolding script_of reads_lines reads_line line_of lines_of pieces token_with
early-refused = refl

pub twice-refused : script_of (text_line (codes "book east 10") ++ text_line (codes "book east 1")) ≡ Err (2, Twice)
unfolding script_of reads_lines reads_line line_of lines_of pieces token_with
twice-refused = refl

pub chief-refused : script_of (text_line (codes "book chief 10")) ≡ Err (1, Twice)
unfolding script_of reads_lines reads_line line_of lines_of pieces token_with
chief-refused = refl

pub key-refused : script_of (text_line (codes "book east 10") ++ text_line (codes "book west 0") ++ text_line (codes "move east 1 west 0 7")) ≡ Err (3, Unknown)
unfolding script_of reads_lines reads_line line_of lines_of pieces token_with
key-refused = refl

pub fixed-refused : script_of (text_line (codes "book end 10")) ≡ Err (1, Structure)
unfolding script_of reads_lines reads_line line_of lines_of pieces token_with
fixed-refused = refl

pub fixed-unknown : script_of (text_line (codes "book east 10") ++ text_line (codes "crash end")) ≡ Err (2, Unknown)
unfolding script_of reads_lines reads_line line_of lines_of pieces token_with
fixed-unknown = refl

pub negative-refused : script_of (text_line (codes "book east 10") ++ text_line (codes "book west 0") ++ text_line (codes "move east 0 west -1 7")) ≡ Err (3, Unknown)
unfolding script_of reads_lines reads_line line_of lines_of pieces token_with
negative-refused = refl

pub same-refused : script_of (text_line (codes "book east 10") ++ text_line (codes "book west 0") ++ text_line (codes "move east 0 east 0 7")) ≡ Err (3, Structure)
unfolding script_of reads_lines reads_line line_of lines_of pieces token_with
same-refused = refl

-- runs -----------------------------------------------------------------------------------------

-- a stop leaves the step's record
abbrev whole_disk : Openings → World2 → What2 → DiskOutcome2
whole_disk openings w what = record {
  found = elim what [ whats.Recover c ↦ log_at w c | _ ↦ [] ];
  left = elim (call_of w what) [ None ↦ [] | Some y ↦ log_at w y.who ++ would_add openings w y ];
  is_open = true;
}

step : Openings → World2 → Event2 → World2
step openings w e = unwrap_or (happens2 openings w e (whole_disk openings w e.what)) w

scripted : Openings → World2 → List Event2 → World2
scripted openings w [] = w
scripted openings w (e ∷ es) = scripted openings (step openings w e) es

settled_step : Openings → World2 → Option What2 → World2
settled_step openings w None = w
settled_step openings w (Some what) = step openings w (plainly what)

settled : ℕ → Openings → World2 → World2
settled zero openings w = w
settled (suc n) openings w = settled n openings (settled_step openings w (next_event2 w))

pub script : List Event2 → TheScript
script es = record { books = books; events = es }

pub run : List Event2 → World2
run es = settled 24 (openings_of (record { books = books; events = es })) (scripted (openings_of (record { books = books; events = es })) (first_world2 (openings_of (record { books = books; events = es }))) es)

pub two_moves-printed : two_lines (script (plainly the_move ∷ plainly the_move ∷ [])) (run (plainly the_move ∷ plainly the_move ∷ []))
    ≡ text_line (codes "move 1 yes") ++ text_line (codes "move 2 no east short 10 7") ++ text_line (codes "book east 3") ++ text_line (codes "book west 7") ++ text_line (codes "settled")
unfolding step scripted settled_step settled script run digits
two_moves-printed = refl

pub two_moves-settled : next_event2 (run (plainly the_move ∷ plainly the_move ∷ [])) ≡ None
unfolding step scripted settled_step settled script run digits
two_moves-settled = refl

pub with_stop-printed : two_lines (script stop_events) (run stop_events) ≡ text_line (codes "move 1 yes") ++ text_line (codes "book east 3") ++ text_line (codes "book west 7") ++ text_line (codes "settled")
unfolding step scripted settled_step settled script run digits
with_stop-printed = refl

pub with_stop-settled : next_event2 (run stop_events) ≡ None
unfolding step scripted settled_step settled script run digits
with_stop-settled = refl
