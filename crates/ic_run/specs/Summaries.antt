-- The whole report of a run, piece by piece, and its summary.
use Rattle.std.specs.Prelude.{◌≡◌, ℕ, Bool, List, [], ◌∷◌, ◌++◌, map, length}
use Rattle.ic_base.specs.declared.report.ReportLevel.{ReportLevel}
use Rattle.ic_base.specs.declared.report.Summary.{Summary}
use Rattle.ic_base.specs.declared.scenario.Program.{Program}
use Rattle.def_plain.specs.History.{history_of}
use Rattle.def_report.specs.Summaries.{summary_lines}
use Rattle.def_run.specs.Reports.{summary_of, stand_of, logs_of}
use Rattle.def_run.specs.SystemStates.{SystemState, Transition, traces_of}
use Rattle.def_step.specs.World as definition
use Rattle.ic_disk.specs.declared.sink.Sink.{Ghosts}
use Rattle.ic_run.specs.Running.{event_pieces}
use Rattle.ic_run.specs.declared.tally.Tally.{Tally}
use Rattle.ic_report.specs.Outputs.{FailsToPut}
use Rattle.ic_report.specs.declared.ending.Why.{Why}
use Rattle.ic_report.specs.declared.ending.Why.TheVariants.{Fault as AFault, Print, Memory}

-- the summary of a run
abbrev pub summary_in : Program → Bool → SystemState → List Transition → List ℕ
summary_in program settled p vs = summary_lines program (summary_of program settled p vs)

-- the pieces of a report: the lines of each event at once, then the summary at once
abbrev pub report_pieces : Program → ReportLevel → Bool → SystemState → List Transition → List (List ℕ)
report_pieces program level settled p vs = event_pieces program level 1 (traces_of vs) ++ summary_in program settled p vs ∷ []

-- what a run came to, by its counts, the records that it played and the world at its end
abbrev pub summed : Program → Bool → Tally → ℕ → definition.World → Summary
summed program settled tally played w = record {
  taken = tally.taken;
  kept = tally.kept;
  lost = tally.lost;
  missed = tally.missed;
  first = tally.first;
  again = tally.again;
  states = map stand_of w.nodes;
  played = played;
  history = length (history_of program (logs_of w));
  settled = settled;
}

module _ {K : Type 0} (k : Ghosts K) where
  -- some pieces aren't printed: the output failed within them, or memory was wanting and none was put
  abbrev pub FailsToTell : List (List ℕ) → K → K → Why → Type 0
  FailsToTell pieces old new (AFault fault) = ⊥
  FailsToTell pieces old new Print = FailsToPut k pieces old new
  FailsToTell pieces old new Memory = new ≡ old
