-- What an audit of the logs of a run comes to.
use Rattle.std.specs.Prelude.{◌≡◌, ℕ, ℤ, Bool, false, List, [], length, map, sum_by, Ok}
use Rattle.ic_base.specs.declared.events.Event.{Event}
use Rattle.ic_base.specs.declared.scenario.Program.{Program}
use Rattle.def_plain.specs.History.{history_of}
use Rattle.def_plain.specs.Plain.{PlainWorld}
use Rattle.def_report.specs.Summaries.{audit_lines}
use Rattle.def_step.specs.Settle.{PolicyIntervals}
use Rattle.def_step.specs.World.{Node, Runs, Serves, Down, External}
use Rattle.def_run.specs.Audits.{values_in, outputs_in, audit_of}
use Rattle.def_run.specs.CrashFree.{EndsCrashFree}
use Rattle.def_run.specs.Executions.{Agenda, Executes, IsComplete, whole_agenda}
use Rattle.def_run.specs.SystemStates.{SystemState, Transition, last_state}
use Rattle.def_run.specs.Openings.{BeginsSound}
use Rattle.def_facts.specs.Flat.{HasFlatParts}
use Rattle.def_facts.specs.Logs.{Logs}
use Rattle.def_facts.specs.Playable.{IsPlayable}
use Rattle.def_facts.specs.Sound.{IsSound}
use Rattle.def_facts.specs.World.{forced_logs}
use Rattle.law_run.specs.ProgramBytes.{HasBytes}
use Rattle.law_run.specs.Ends.{AreEvents}

-- of sound logs it prints the values and counts the outputs of the crash-free world that explains them
abbrev pub SoundLogsHaveAudits : Type 0
SoundLogsHaveAudits = (program : Program) (logs : Logs) (v : PlainWorld) → IsSound program logs v → audit_of program logs ≡ Ok (audit_lines program (map values_in v) (sum_by outputs_in v) (length (history_of program logs)))

-- wherever a run is, with whatever crashes and stops: what its disks hold is sound, and so has its audit
abbrev pub RunsHaveAudits : Type 0
RunsHaveAudits = (program : Program) (fingerprint : List ℕ) (before : List (List ℕ)) (x : PolicyIntervals) (events : List Event) (halts : Bool) (b : Agenda) (p : SystemState) (vs : List Transition) → IsPlayable program → HasFlatParts program → HasBytes program → AreEvents program events →
    BeginsSound program fingerprint before p → Executes program fingerprint x (whole_agenda events halts) p vs b → (v : PlainWorld) × IsSound program (forced_logs (last_state p vs).world) v
    × (audit_of program (forced_logs (last_state p vs).world) ≡ Ok (audit_lines program (map values_in v) (sum_by outputs_in v) (length (history_of program (forced_logs (last_state p vs).world)))))

-- the values that a component that is up stands with
abbrev pub values_on : Node → List ℤ
values_on (Runs p) = p.vol.vars
values_on (Serves t) = t.book.ledger
values_on (Down log) = []
values_on External = []

-- behind a run that did all that was to be done it prints the values with which its components stand
abbrev pub CompleteRunsHaveAudits : Type 0
CompleteRunsHaveAudits = (program : Program) (fingerprint : List ℕ) (before : List (List ℕ)) (x : PolicyIntervals) (events : List Event) (p : SystemState) (vs : List Transition) → IsPlayable program → HasFlatParts program → HasBytes program → AreEvents program events →
    BeginsSound program fingerprint before p → IsComplete program fingerprint x (whole_agenda events false) p vs → (v : PlainWorld) × EndsCrashFree program (forced_logs p.world) (last_state p vs).world v
    × (audit_of program (forced_logs (last_state p vs).world) ≡ Ok (audit_lines program (map values_on (last_state p vs).world.nodes) (sum_by outputs_in v) (length (history_of program (forced_logs (last_state p vs).world)))))
