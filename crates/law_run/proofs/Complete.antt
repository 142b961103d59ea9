-- Each run stands as the crash-free world of its records, and a complete one ends settled, as that of its merged logs.
use Rattle.std.proofs.Common.{◌≡◌, refl, ◌∙◌, ap, sym, ℕ, Bool, true, false, ◌&&◌, cond, List, [], ◌∷◌, Option, Some, None, option_map}
use Rattle.ic_base.specs.declared.events.Event.{Event}
use Rattle.ic_base.specs.declared.events.What.{What}
use Rattle.ic_base.specs.declared.scenario.Program.{Program}
use Rattle.def_step.specs.Settle.{PolicyIntervals, policy_for, next_event}
use Rattle.def_step.specs.World.{World}
use Rattle.def_run.specs.SystemStates.{SystemState, Transition, KeepsLogs, last_state}
use Rattle.def_run.specs.Executions.{Agenda, Next, Executes, IsComplete, agenda_behind, first_of, without_taking, settling, is_input, scheduled, unless_asked, next, whole_agenda}
use Rattle.law_settle.proofs.Ending.{settled_ends_crash_free}
use Rattle.law_settle.proofs.Quiet.{no_event_where_settled}
use Rattle.law_settle.proofs.Standing.{explained_stands_crash_free}
use Rattle.def_plain.specs.Plain.{PlainWorld}
use Rattle.def_run.specs.CrashFree.{EndsCrashFree}
use Rattle.def_facts.specs.Flat.{HasFlatParts}
use Rattle.def_facts.specs.Logs.{Logs}
use Rattle.def_facts.specs.Playable.{IsPlayable}
use Rattle.def_facts.specs.World.{forced_logs}
use Rattle.ic_base.specs.declared.messages.ComId.{ComId}
use Rattle.law_run.specs.ProgramBytes.{HasBytes}
use Rattle.law_run.proofs.ScenarioBytes.{scenarios_have_bytes}
use Rattle.law_syntax.proofs.Events.{schedules_have_events}
use Rattle.law_run.specs.Ends.{RunsStandCrashFree, RunsEndCrashFree, TextRunsStandCrashFree, TextRunsEndCrashFree}
use Rattle.law_syntax.proofs.Scenarios.{scenarios_are_playable, scenarios_have_flat_parts}
use Rattle.law_run.specs.Executions.{CompleteRunsEndCrashFree, ExecutionsStandCrashFree, IsExplainedInBytes, MayCome, here_along}
use Rattle.law_run.proofs.Along.{at-the-end}
use Rattle.law_run.proofs.Gaining.{executions_gain_inputs}
use Rattle.law_run.proofs.Starts.{beginnings_are_explained}

pub halts-same : (program : Program) (fingerprint : List ℕ) (x : PolicyIntervals) (a b : Agenda) (p : SystemState) (vs : List Transition) → Executes program fingerprint x a p vs b → b.halts ≡ a.halts
halts-same program fingerprint x a b p [] runs = ap (λ (z : Agenda). z.halts) (sym runs)
halts-same program fingerprint x a b p (v ∷ vs) runs = halts-same program fingerprint x (agenda_behind a runs.0 v.trace) b v.state vs runs.3

pub none-left : (w : World) (x : PolicyIntervals) (a : Agenda) → a.halts ≡ false → next w x a ≡ None → next_event w ≡ None
none-left w x a no_halt e = at a.left (second (option_map (without_taking a.left) (policy_for w x a.last)) (unless_asked w a) e)
  where
    second : (m n : Option Next) → first_of m n ≡ None → n ≡ None
    second None n k = k
    second (Some z) n k = absurd (cc k)

    some : (m : Option Next) (z : Next) → first_of m (Some z) ≡ None → ⊥
    some None z k = absurd (cc k)
    some (Some y) z k = absurd (cc k)

    none : (o : Option What) → option_map (without_taking []) o ≡ None → o ≡ None
    none None k = refl
    none (Some what) k = absurd (cc k)

    going : (b : Bool) → b ≡ false → cond b None (settling w []) ≡ None → next_event w ≡ None
    going true f k = absurd (cc f)
    going false f k = none (next_event w) k

    at : (l : List Event) → ◌≡◌ {A = Option Next} (elim l [ e ∷ left ↦ scheduled w a.settles_first e left | [] ↦ cond a.halts None (settling w []) ]) None → next_event w ≡ None
    at [] k = going a.halts no_halt k
    at (z ∷ left) k = absurd (some (cond (a.settles_first && is_input z.what) (settling w (z ∷ left)) None) (record { event = z; left = left }) k)

-- an agenda without a halt ends settled
pub complete-ends : (program : Program) (fingerprint : List ℕ) (x : PolicyIntervals) (a : Agenda) (p : SystemState) (vs : List Transition) (found : Logs) (here : ComId → ℕ) → a.halts ≡ false → IsPlayable program → HasFlatParts program → HasBytes program → MayCome program a → KeepsLogs fingerprint p → IsExplainedInBytes program found here p.world →
    IsComplete program fingerprint x a p vs → (v : PlainWorld) × EndsCrashFree program found (last_state p vs).world v
complete-ends program fingerprint x a p vs found here goes play flat bytes may keeps f run =
    let l = at-the-end program fingerprint x a run.agenda p vs found here play flat bytes may keeps run.executes f in
    let quiet = none-left (last_state p vs).world x run.agenda (halts-same program fingerprint x a run.agenda p vs run.executes ∙ goes) run.nothing in
    settled_ends_crash_free program found (here_along here p vs) (last_state p vs).world play l.explained.explained ((no_event_where_settled program found (here_along here p vs) (last_state p vs).world l.explained.explained.0 l.explained.explained.1).0 quiet)

pub complete_runs_end : CompleteRunsEndCrashFree
complete_runs_end program fingerprint x events p vs found here play flat bytes may keeps f run = complete-ends program fingerprint x (whole_agenda events false) p vs found here refl play flat bytes may keeps f run

pub executions_stand : ExecutionsStandCrashFree
executions_stand program fingerprint x a b p vs found here play flat bytes may keeps runs f =
    explained_stands_crash_free program found (here_along here p vs) (last_state p vs).world (at-the-end program fingerprint x a b p vs found here play flat bytes may keeps runs f).explained.explained

-- where a run begins soundly
pub runs_stand : RunsStandCrashFree
runs_stand program fingerprint before x events halts b p vs play flat bytes may begins runs =
    let f = beginnings_are_explained program fingerprint before p play bytes begins in (
      executions_gain_inputs program fingerprint x (whole_agenda events halts) b p vs (forced_logs p.world) (λ c. 0) play flat bytes may f.1 runs f.0,
      executions_stand program fingerprint x (whole_agenda events halts) b p vs (forced_logs p.world) (λ c. 0) play flat bytes may f.1 runs f.0,
    )

pub runs_end : RunsEndCrashFree
runs_end program fingerprint before x events p vs play flat bytes may begins run =
    let f = beginnings_are_explained program fingerprint before p play bytes begins in (
      executions_gain_inputs program fingerprint x (whole_agenda events false) run.agenda p vs (forced_logs p.world) (λ c. 0) play flat bytes may f.1 run.executes f.0,
      complete_runs_end program fingerprint x events p vs (forced_logs p.world) (λ c. 0) play flat bytes may f.1 f.0 run,
    )

-- texts
pub text_runs_stand : TextRunsStandCrashFree
text_runs_stand text schedule program fingerprint before x events halts b p vs is said =
    runs_stand program fingerprint before x events halts b p vs (scenarios_are_playable text program is) (scenarios_have_flat_parts text program is) (scenarios_have_bytes text program is) (schedules_have_events program schedule events halts said)

pub text_runs_end : TextRunsEndCrashFree
text_runs_end text schedule program fingerprint before x events p vs is said =
    runs_end program fingerprint before x events p vs (scenarios_are_playable text program is) (scenarios_have_flat_parts text program is) (scenarios_have_bytes text program is) (schedules_have_events program schedule events false said)
