-- Wherever a run is, it stands as if nothing had crashed; one that did all that was to be done ends so.
use Rattle.std.specs.Prelude.{◌≡◌, ℕ, Bool, false, List, Contains, None, Ok}
use Rattle.ic_base.specs.declared.messages.ComId.{ComId}
use Rattle.ic_base.specs.declared.events.Event.{Event}
use Rattle.ic_base.specs.declared.scenario.Program.{Program}
use Rattle.def_log.specs.Laws.{IsBytes}
use Rattle.def_plain.specs.Plain.{PlainWorld}
use Rattle.def_syntax.specs.Scenario.{IsScenario}
use Rattle.def_syntax.specs.Schedule.{schedule_of}
use Rattle.def_step.specs.Settle.{PolicyIntervals}
use Rattle.def_step.specs.World.{World}
use Rattle.def_run.specs.CrashFree.{GainsInputs, StandsCrashFree, EndsCrashFree}
use Rattle.def_run.specs.SystemStates.{SystemState, Transition, KeepsLogs, file_of, last_state}
use Rattle.def_run.specs.Executions.{Agenda, Executes, IsComplete, whole_agenda}
use Rattle.def_run.specs.Openings.{IsFound, BeginsSound, found_refusal}
use Rattle.def_facts.specs.Flat.{HasFlatParts}
use Rattle.def_facts.specs.Logs.{Logs, log_at}
use Rattle.def_facts.specs.Playable.{IsPlayable}
use Rattle.def_facts.specs.World.{forced_logs}
use Rattle.law_syntax.specs.Events.{IsEvent}
use Rattle.law_run.specs.ProgramBytes.{HasBytes}
use Rattle.law_run.specs.Executions.{IsExplainedInBytes}

-- the events of a schedule are such as may come
abbrev pub AreEvents : Program → List Event → Type 0
AreEvents program events = (e : Event) → Contains events e → IsEvent program e

-- where a run begins --------------------------------------------------------------------------------

-- so it begins explained, with its logs for those that were found, and with the bytes of each number
abbrev pub BeginningsAreExplained : Type 0
BeginningsAreExplained = (program : Program) (fingerprint : List ℕ) (before : List (List ℕ)) (p : SystemState) → IsPlayable program → HasBytes program → BeginsSound program fingerprint before p → IsExplainedInBytes program (forced_logs p.world) (λ c. 0) p.world × KeepsLogs fingerprint p

-- what it comes to ----------------------------------------------------------------------------------

-- each log gained the inputs that the run took or kept, and all stands as the crash-free world of all records has it
abbrev pub ComesToStand : Program → Logs → List Transition → World → Type 0
ComesToStand program found vs w = GainsInputs program found vs w × ((v : PlainWorld) × StandsCrashFree program found w v)

-- each log gained those inputs, and all ended as the crash-free world of the merged logs has it
abbrev pub ComesToEnd : Program → Logs → List Transition → World → Type 0
ComesToEnd program found vs w = GainsInputs program found vs w × ((v : PlainWorld) × EndsCrashFree program found w v)

-- whatever halts a run, with whatever crashes and stops, wherever it is: so it stands, and has kept the logs with which it began
abbrev pub RunsStandCrashFree : Type 0
RunsStandCrashFree = (program : Program) (fingerprint : List ℕ) (before : List (List ℕ)) (x : PolicyIntervals) (events : List Event) (halts : Bool) (b : Agenda) (p : SystemState) (vs : List Transition) → IsPlayable program → HasFlatParts program → HasBytes program → AreEvents program events →
    BeginsSound program fingerprint before p → Executes program fingerprint x (whole_agenda events halts) p vs b → ComesToStand program (forced_logs p.world) vs (last_state p vs).world

-- and one that did all that was to be done, with no halt, ends so
abbrev pub RunsEndCrashFree : Type 0
RunsEndCrashFree = (program : Program) (fingerprint : List ℕ) (before : List (List ℕ)) (x : PolicyIntervals) (events : List Event) (p : SystemState) (vs : List Transition) → IsPlayable program → HasFlatParts program → HasBytes program → AreEvents program events →
    BeginsSound program fingerprint before p → IsComplete program fingerprint x (whole_agenda events false) p vs → ComesToEnd program (forced_logs p.world) vs (last_state p vs).world

-- so of every scenario with every schedule for it, and of one without a `halt`
abbrev pub TextRunsStandCrashFree : Type 0
TextRunsStandCrashFree = (text schedule : List ℕ) (program : Program) (fingerprint : List ℕ) (before : List (List ℕ)) (x : PolicyIntervals) (events : List Event) (halts : Bool) (b : Agenda) (p : SystemState) (vs : List Transition) → IsScenario text program → schedule_of program schedule ≡ Ok (events, halts) →
    BeginsSound program fingerprint before p → Executes program fingerprint x (whole_agenda events halts) p vs b → ComesToStand program (forced_logs p.world) vs (last_state p vs).world

abbrev pub TextRunsEndCrashFree : Type 0
TextRunsEndCrashFree = (text schedule : List ℕ) (program : Program) (fingerprint : List ℕ) (before : List (List ℕ)) (x : PolicyIntervals) (events : List Event) (p : SystemState) (vs : List Transition) → IsScenario text program → schedule_of program schedule ≡ Ok (events, false) →
    BeginsSound program fingerprint before p → IsComplete program fingerprint x (whole_agenda events false) p vs → ComesToEnd program (forced_logs p.world) vs (last_state p vs).world

-- What a run leaves on its disks, wherever it is, is taken up: whatever is found over them begins soundly, with the logs that stood there.
abbrev pub RunsAreTakenUp : Type 0
RunsAreTakenUp = (program : Program) (fingerprint : List ℕ) (before : List (List ℕ)) (x : PolicyIntervals) (events : List Event) (halts : Bool) (b : Agenda) (p r : SystemState) (vs : List Transition) → IsPlayable program → HasFlatParts program → HasBytes program → AreEvents program events →
    BeginsSound program fingerprint before p → Executes program fingerprint x (whole_agenda events halts) p vs b → IsFound program fingerprint (last_state p vs).files r → ((c : ComId) → IsBytes (file_of (last_state p vs) c)) →
    BeginsSound program fingerprint (last_state p vs).files r × ((c : ComId) → log_at (forced_logs r.world) c ≡ log_at (forced_logs (last_state p vs).world) c)

-- And it isn't refused when it is found: each disk holds a log of this scenario, whose records are read.
abbrev pub LeftLogsAreNotRefused : Type 0
LeftLogsAreNotRefused = (program : Program) (fingerprint : List ℕ) (before : List (List ℕ)) (x : PolicyIntervals) (events : List Event) (halts : Bool) (b : Agenda) (p : SystemState) (vs : List Transition) → IsPlayable program → HasFlatParts program → HasBytes program → AreEvents program events →
    BeginsSound program fingerprint before p → Executes program fingerprint x (whole_agenda events halts) p vs b → found_refusal program fingerprint (last_state p vs).files ≡ None
