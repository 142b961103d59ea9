-- What a live run prints: its outputs, in order of component and showing, and the summary of both phases.
use Rattle.std.specs.Prelude.{ℕ, ◌+◌, Bool, true, not, List, [], ◌∷◌, ◌++◌, count_by, filter, flat_map, Option, Some, None, codes}
use Rattle.std.specs.List.{list_any}
use Rattle.ic_base.specs.declared.messages.ComId.{ComId}
use Rattle.ic_base.specs.declared.messages.Output.{Output}
use Rattle.ic_base.specs.declared.refusals.WorldRefused.{WorldRefused}
use Rattle.ic_base.specs.declared.report.Fault.{Fault}
use Rattle.ic_base.specs.declared.report.ReportLevel.{ReportLevel}
use Rattle.ic_base.specs.declared.report.ReportLevel.TheVariants as levels
use Rattle.ic_base.specs.declared.report.Summary.{Summary}
use Rattle.ic_base.specs.declared.scenario.Program.{Program}
use Rattle.def_report.specs.Faults.{fault_line}
use Rattle.def_report.specs.Lines.{showing_line}
use Rattle.def_report.specs.Summaries.{summary_lines}
use Rattle.def_report.specs.Words.{name_of}
use Rattle.def_facts.specs.World.{is_by}
use Rattle.def_run.specs.Refusals.{fault_of}
use Rattle.def_run.specs.Reports.{summary_of}
use Rattle.def_run.specs.SystemStates.{SystemState, Transition, last_state}
use Rattle.def_step.specs.World.{same_showing}
use Rattle.def_live.specs.Turns.{coms_from}
use Rattle.def_live_run.specs.Counts.{Counts}

-- a showing, and whether its identity was shown before
pub record Marked : Type 0 where
  pub by : ComId
  pub output : Output
  pub before : Bool

-- these showings in order, behind those that came before
abbrev pub marked : List (ComId × Output) → List (ComId × Output) → List Marked
marked before [] = []
marked before (x ∷ xs) = record { by = x.0; output = x.1; before = list_any (same_showing x.0 x.1.m) before } ∷ marked (before ++ x ∷ []) xs

-- all showings, in order of component and showing
abbrev pub in_order : Program → List (ComId × Output) → List Marked
in_order program showings = flat_map (λ c. marked [] (filter (is_by c) showings)) (coms_from 0 program.components)

abbrev pub marked_line : Program → Marked → List ℕ
marked_line program x = showing_line program (name_of program x.by) x.output x.before

-- their lines at a level
abbrev pub output_lines : Program → ReportLevel → List (ComId × Output) → List ℕ
output_lines program levels.Summary showings = []
output_lines program level showings = flat_map (marked_line program) (in_order program showings)

-- the summary of the serial phase, with what the berths counted, and with the showings of both phases
abbrev pub in_both : Counts → List Marked → Summary → Summary
in_both counts shown s = record s {
  taken = counts.taken + s.taken;
  kept = counts.kept + s.kept;
  lost = counts.lost + s.lost;
  missed = counts.missed + s.missed;
  first = count_by (λ x. not x.before) shown;
  again = count_by (λ x. x.before) shown;
  played = counts.played + s.played;
}

-- what a live run came to whose serial phase began in this state, with these transitions. Its showings are those of its last world, which
-- began with those of the berths.
abbrev pub live_summary : Program → Counts → SystemState → List Transition → Summary
live_summary program counts p vs = in_both counts (in_order program (last_state p vs).world.showings) (summary_of program true p vs)

-- the whole report
abbrev pub live_report : Program → ReportLevel → Counts → SystemState → List Transition → List ℕ
live_report program level counts p vs = output_lines program level (last_state p vs).world.showings ++ summary_lines program (live_summary program counts p vs)

-- A live run that is refused, in either phase or where it begins, prints its last line alone. Want of memory has none.
abbrev pub last_line : Option Program → Option Fault → List ℕ
last_line program None = []
last_line program (Some fault) = fault_line (codes "iclive") program fault

abbrev pub live_refusal_line : Program → List ℕ → WorldRefused → List ℕ
live_refusal_line program fingerprint why = last_line (Some program) (fault_of fingerprint why)
