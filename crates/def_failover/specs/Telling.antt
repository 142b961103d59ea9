-- What a run with a standby prints: the lines of a run's events, a line for each shipment and each takeover, and the summary.
use Rattle.std.specs.Prelude.{ℕ, ◌+◌, suc, Bool, List, [], ◌∷◌, ◌++◌, map, length, count_by, codes, decimal}
use Rattle.ic_base.specs.declared.events.Trace.{Trace}
use Rattle.ic_base.specs.declared.report.ReportLevel.{ReportLevel}
use Rattle.ic_base.specs.declared.report.ReportLevel.TheVariants as levels
use Rattle.ic_base.specs.declared.report.Summary.{Summary}
use Rattle.ic_base.specs.declared.scenario.Program.{Program}
use Rattle.def_plain.specs.History.{history_of}
use Rattle.def_report.specs.Words.{spaced, line}
use Rattle.def_run.specs.Reports.{is_taken, is_kept, is_lost, is_missed, shows_first, shows_again, stand_of, logs_of}
use Rattle.def_standby.specs.declared.orders.Order.{Order}
use Rattle.def_standby.specs.declared.orders.Order.TheVariants.{Ship, TakeOver, Run}
use Rattle.def_step.specs.World.{World}
use Rattle.def_failover.specs.declared.note.Note.{Note}
use Rattle.def_failover.specs.declared.note.Note.TheVariants as notes

abbrev pub order_word : Order → List ℕ
order_word Ship = codes "ship"
order_word TakeOver = codes "takeover"
order_word (Run e) = []

abbrev pub note_words : Note → List (List ℕ)
note_words notes.Down = codes "down" ∷ []
note_words notes.Replaying = codes "replaying" ∷ []
note_words notes.Up = codes "up" ∷ []
note_words notes.Gone = codes "gone" ∷ []
note_words notes.Empty = codes "empty" ∷ []
note_words (notes.Applied have) = codes "applied" ∷ decimal have ∷ []
note_words (notes.Done played) = codes "done" ∷ decimal played ∷ []
note_words notes.Bad = []

-- what is told of an order that is no event stands at the level full
abbrev pub note_lines : ReportLevel → ℕ → Order → Note → List ℕ
note_lines levels.Full number o note = spaced (decimal number ∷ order_word o ∷ []) ++ codes ": " ++ line (note_words note)
note_lines _ number o note = []

-- what a run came to, by its traces, the records that were played in it, and the world at its end
abbrev pub summary_of : Program → Bool → List Trace → ℕ → World → Summary
summary_of program settled ts played w = record {
  taken = count_by is_taken ts;
  kept = count_by is_kept ts;
  lost = count_by is_lost ts;
  missed = count_by is_missed ts;
  first = count_by shows_first ts;
  again = count_by shows_again ts;
  states = map stand_of w.nodes;
  played = played;
  history = length (history_of program (logs_of w));
  settled = settled;
}
