-- Along every execution each state is explained, and stands as the crash-free world of its records.
use Rattle.std.specs.Prelude.{◌≡◌, false, ℕ, List, [], ◌∷◌, ◌++◌, Contains}
use Rattle.ic_base.specs.declared.messages.ComId.{ComId}
use Rattle.ic_base.specs.declared.events.Event.{Event}
use Rattle.ic_base.specs.declared.scenario.Program.{Program}
use Rattle.def_step.specs.Settle.{PolicyIntervals}
use Rattle.def_run.specs.SystemStates.{SystemState, Transition, KeepsLogs, last_state}
use Rattle.def_run.specs.CoreSteps.{CoreStep}
use Rattle.def_run.specs.Executions.{Agenda, Executes, IsComplete, whole_agenda}
use Rattle.def_facts.specs.Flat.{HasFlatParts}
use Rattle.def_facts.specs.Logs.{Logs}
use Rattle.def_facts.specs.Playable.{IsPlayable}
use Rattle.def_facts.specs.World.{IsExplained, forced_logs}
use Rattle.law_run.specs.ProgramBytes.{HasBytes}
use Rattle.law_run.specs.WorldBytes.{WorldFits}
use Rattle.def_plain.specs.Plain.{PlainWorld}
use Rattle.def_run.specs.CrashFree.{GainsInputs, StandsCrashFree, EndsCrashFree}
use Rattle.law_step.specs.Steps.{here_behind}
use Rattle.law_syntax.specs.Events.{IsEvent}
use Rattle.def_step.specs.World.{World}

-- the greatest outputs of the present lives behind transitions
abbrev pub here_along : (ComId → ℕ) → SystemState → List Transition → ComId → ℕ
here_along here p [] = here
here_along here p (v ∷ vs) = here_along (here_behind here p.world v.state.world) v.state vs

-- the events that are still to be done are such as may come
abbrev pub MayCome : Program → Agenda → Type 0
MayCome program a = (e : Event) → Contains a.left e → IsEvent program e

-- the world is explained, and in it each number has its bytes
pub record IsExplainedInBytes (program : Program) (found : Logs) (here : ComId → ℕ) (w : World) : Type 0 where
  pub explained : IsExplained program found here w
  pub bytes : WorldFits w

-- a core step keeps it so
abbrev pub CoreStepsKeepExplained : Type 0
CoreStepsKeepExplained = (program : Program) (fingerprint : List ℕ) (found : Logs) (here : ComId → ℕ) (p : SystemState) (v : Transition) → IsPlayable program → HasFlatParts program → HasBytes program → IsEvent program v.trace.event → KeepsLogs fingerprint p →
    CoreStep program fingerprint p v.trace.event v.trace v.state → IsExplainedInBytes program found here p.world → IsExplainedInBytes program found (here_behind here p.world v.state.world) v.state.world

-- along an execution each state is so, from one that is
abbrev pub ExecutionsStayExplained : Type 0
ExecutionsStayExplained = (program : Program) (fingerprint : List ℕ) (x : PolicyIntervals) (a b : Agenda) (p : SystemState) (vs : List Transition) (found : Logs) (here : ComId → ℕ) → IsPlayable program → HasFlatParts program → HasBytes program → MayCome program a → KeepsLogs fingerprint p →
    Executes program fingerprint x a p vs b → IsExplainedInBytes program found here p.world → (us ws : List Transition) → vs ≡ us ++ ws → IsExplainedInBytes program found (here_along here p us) (last_state p us).world

-- along an execution each log gains the inputs that were taken or kept, and no other
abbrev pub ExecutionsGainInputs : Type 0
ExecutionsGainInputs = (program : Program) (fingerprint : List ℕ) (x : PolicyIntervals) (a b : Agenda) (p : SystemState) (vs : List Transition) (found : Logs) (here : ComId → ℕ) → IsPlayable program → HasFlatParts program → HasBytes program → MayCome program a → KeepsLogs fingerprint p →
    Executes program fingerprint x a p vs b → IsExplainedInBytes program found here p.world → GainsInputs program (forced_logs p.world) vs (last_state p vs).world

-- wherever it is, it stands as the crash-free world of all its records
abbrev pub ExecutionsStandCrashFree : Type 0
ExecutionsStandCrashFree = (program : Program) (fingerprint : List ℕ) (x : PolicyIntervals) (a b : Agenda) (p : SystemState) (vs : List Transition) (found : Logs) (here : ComId → ℕ) → IsPlayable program → HasFlatParts program → HasBytes program → MayCome program a → KeepsLogs fingerprint p →
    Executes program fingerprint x a p vs b → IsExplainedInBytes program found here p.world → (v : PlainWorld) × StandsCrashFree program found (last_state p vs).world v

-- A run that did all that was to be done, with no halt, ends settled: with the values, ledgers, first outputs, messages, commits and
-- inputs of the crash-free world of the merged logs.
abbrev pub CompleteRunsEndCrashFree : Type 0
CompleteRunsEndCrashFree = (program : Program) (fingerprint : List ℕ) (x : PolicyIntervals) (events : List Event) (p : SystemState) (vs : List Transition) (found : Logs) (here : ComId → ℕ) → IsPlayable program → HasFlatParts program → HasBytes program → ((e : Event) → Contains events e → IsEvent program e) → KeepsLogs fingerprint p →
    IsExplainedInBytes program found here p.world → IsComplete program fingerprint x (whole_agenda events false) p vs → (v : PlainWorld) × EndsCrashFree program found (last_state p vs).world v
