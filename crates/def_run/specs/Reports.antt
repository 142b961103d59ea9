-- What a run prints, as a function of the places that it came through.
use Rattle.std.specs.Prelude.{ℕ, ◌+◌, ◌-◌, Bool, true, false, not, List, [], ◌∷◌, ◌++◌, Some, None, map, length, count_by, cond}
use Rattle.ic_base.specs.declared.events.Answer.TheVariants as answers
use Rattle.ic_base.specs.declared.events.Trace.{Trace}
use Rattle.ic_base.specs.declared.scenario.Program.{Program}
use Rattle.ic_base.specs.declared.record.Record.{Record}
use Rattle.ic_base.specs.declared.report.ReportLevel.{ReportLevel}
use Rattle.ic_base.specs.declared.report.Stand.{Stand}
use Rattle.ic_base.specs.declared.report.Stand.TheVariants as stands
use Rattle.ic_base.specs.declared.report.Summary.{Summary}
use Rattle.def_plain.specs.History.{history_of}
use Rattle.def_report.specs.Lines.{run_lines}
use Rattle.def_report.specs.Summaries.{summary_lines}
use Rattle.def_step.specs.Pcom.{all_of, is_replaying}
use Rattle.def_step.specs.Replay.{behind_checkpoint}
use Rattle.def_step.specs.World.{World, Node, Runs, Serves, Down, External}
use Rattle.def_run.specs.SystemStates.{SystemState}
use Rattle.def_run.specs.SystemStates.{Transition, last_state, traces_of}

-- the input was taken; it was kept or lost at a stop; it was missed
abbrev pub is_taken : Trace → Bool
is_taken t = elim t.answer [ answers.Taken ↦ true | _ ↦ false ]

abbrev pub is_kept : Trace → Bool
is_kept t = elim t.answer [ answers.Kept ↦ true | _ ↦ false ]

abbrev pub is_lost : Trace → Bool
is_lost t = elim t.answer [ answers.Lost ↦ true | _ ↦ false ]

abbrev pub is_missed : Trace → Bool
is_missed t = elim t.answer [ answers.MissedDown ↦ true | answers.MissedReplaying ↦ true | answers.MissedBusy ↦ true | _ ↦ false ]

-- an output is shown for the first time in the run, or again
abbrev pub shows_first : Trace → Bool
shows_first t = elim t.shown [ None ↦ false | Some x ↦ not x.1 ]

abbrev pub shows_again : Trace → Bool
shows_again t = elim t.shown [ None ↦ false | Some x ↦ x.1 ]

-- how a component stands
abbrev pub stand_of : Node → Stand
stand_of (Runs p) = cond (is_replaying p) stands.Replaying (stands.Up p.vol.vars)
stand_of (Serves t) = stands.Up t.book.ledger
stand_of (Down records) = stands.Down
stand_of External = stands.External

-- all records of a component, forced and buffered
abbrev pub log_of_node : Node → List Record
log_of_node (Runs p) = all_of p.log
log_of_node (Serves t) = t.records
log_of_node (Down records) = records
log_of_node External = []

abbrev pub logs_of : World → List (List Record)
logs_of w = map log_of_node w.nodes

-- the records that a Pcom has still to play before it is up
abbrev pub to_play : Node → ℕ
to_play (Runs p) = length p.rest
to_play (Serves t) = 0
to_play (Down records) = length (behind_checkpoint records)
to_play External = 0

-- the records played by a component that comes up, or comes nearer to it; a crash plays none
abbrev pub played_by : Node → Node → ℕ
played_by before (Runs p) = to_play before - to_play (Runs p)
played_by before now = 0

abbrev pub played_by_all : List Node → List Node → ℕ
played_by_all (m ∷ ms) (n ∷ ns) = played_by m n + played_by_all ms ns
played_by_all ms ns = 0

-- the records played in a run
abbrev pub played_in : SystemState → List Transition → ℕ
played_in p [] = 0
played_in p (v ∷ vs) = played_by_all p.world.nodes v.state.world.nodes + played_in v.state vs

-- what a run came to
abbrev pub summary_of : Program → Bool → SystemState → List Transition → Summary
summary_of program settled p vs = record {
  taken = count_by is_taken (traces_of vs);
  kept = count_by is_kept (traces_of vs);
  lost = count_by is_lost (traces_of vs);
  missed = count_by is_missed (traces_of vs);
  first = count_by shows_first (traces_of vs);
  again = count_by shows_again (traces_of vs);
  states = map stand_of (last_state p vs).world.nodes;
  played = played_in p vs;
  history = length (history_of program (logs_of (last_state p vs).world));
  settled = settled;
}

-- the lines of the events of a run
abbrev pub event_lines : Program → ReportLevel → List Transition → List ℕ
event_lines program level vs = run_lines program 1 (traces_of vs) level

-- the whole report
abbrev pub report_of : Program → ReportLevel → Bool → SystemState → List Transition → List ℕ
report_of program level settled p vs = event_lines program level vs ++ summary_lines program (summary_of program settled p vs)
