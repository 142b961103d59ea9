-- A run is taken up from what the disks hold at any moment of a step.
use Rattle.std.specs.Prelude.{◌≡◌, ◌⊎◌, ℕ, true, false, List, Some, Ok}
use Rattle.ic_base.specs.declared.messages.ComId.{ComId}
use Rattle.ic_base.specs.declared.events.What.{What}
use Rattle.ic_base.specs.declared.scenario.Program.{Program}
use Rattle.def_log.specs.Laws.{IsBytes}
use Rattle.def_log.specs.Log.{log_of}
use Rattle.def_step.specs.World.{DiskOutcome, After, happens}
use Rattle.def_run.specs.SystemStates.{SystemState, KeepsLogs, file_in, file_of, is_of, without_stop}
use Rattle.def_run.specs.CoreSteps.{is_full_at}
use Rattle.def_run.specs.Openings.{IsFound}
use Rattle.def_facts.specs.Flat.{HasFlatParts}
use Rattle.def_facts.specs.Logs.{Logs, log_at}
use Rattle.def_facts.specs.Playable.{IsPlayable}
use Rattle.def_facts.specs.World.{forced_logs}
use Rattle.law_syntax.specs.Events.{IsEvent}
use Rattle.law_run.specs.ProgramBytes.{HasBytes}
use Rattle.law_run.specs.Executions.{IsExplainedInBytes}

-- What is found after a crash of the whole machine at a moment of a step, each log as before the step or as behind it, is explained.
-- The step is that of the event without its stop, which may come at each moment.
abbrev pub FoundAtMoments : Type 0
FoundAtMoments = (program : Program) (fingerprint : List ℕ) (found : Logs) (here : ComId → ℕ) (p : SystemState) (what : What) (x : DiskOutcome) (a : After) (before : List (List ℕ)) (r : SystemState) → IsPlayable program → HasFlatParts program → HasBytes program → IsEvent program (without_stop what) → KeepsLogs fingerprint p → is_full_at program p what ≡ false →
    ((c : ComId) → is_of (without_stop what) a.trace c ≡ true → log_of (file_of p c) ≡ Ok x.found) → happens program p.world (without_stop what) x ≡ Some a → IsExplainedInBytes program found here p.world →
    IsFound program fingerprint before r → ((c : ComId) → IsBytes (file_in before c)) → ((c : ComId) → (log_at (forced_logs r.world) c ≡ log_at (forced_logs p.world) c) ⊎ (log_at (forced_logs r.world) c ≡ log_at (forced_logs a.world) c)) → IsExplainedInBytes program (forced_logs r.world) (λ c. 0) r.world × KeepsLogs fingerprint r
