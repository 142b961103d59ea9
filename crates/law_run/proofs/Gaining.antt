-- Along an execution each log gains the inputs that are taken or kept.
use Rattle.std.proofs.Common.{◌≡◌, ◌∙◌, ap, sym, true, ℕ, List, [], ◌∷◌, ◌++◌, ℤ, Option, Some, None, option_to_list}
use Rattle.std.specs.Prelude.{filter_map}
use Rattle.std.specs.List.{cons_option}
use Rattle.std.proofs.lemmas.List.{append-nil, append_assoc}
use Rattle.ic_base.specs.declared.messages.ComId.{ComId}
use Rattle.ic_base.specs.declared.scenario.Program.{Program}
use Rattle.ic_base.specs.Programs.{is_a_pcom}
use Rattle.def_step.specs.Settle.{PolicyIntervals}
use Rattle.def_run.specs.CoreSteps.{CoreStep}
use Rattle.def_run.specs.CrashFree.{GainsInputs, input_in, received_by}
use Rattle.def_run.specs.Executions.{Agenda}
use Rattle.def_run.specs.SystemStates.{SystemState, Transition, KeepsLogs, last_state, traces_of}
use Rattle.def_facts.specs.Flat.{HasFlatParts}
use Rattle.def_facts.specs.Logs.{Logs, log_at}
use Rattle.def_facts.specs.Playable.{IsPlayable}
use Rattle.def_facts.specs.World.{forced_logs}
use Rattle.law_run.specs.ProgramBytes.{HasBytes}
use Rattle.law_step.specs.Steps.{here_behind}
use Rattle.law_step.proofs.Gaining.{events_gain_inputs}
use Rattle.law_syntax.specs.Events.{IsEvent}
use Rattle.law_run.specs.Executions.{IsExplainedInBytes, ExecutionsGainInputs}
use Rattle.law_run.proofs.Agendas.{next-is}
use Rattle.law_run.proofs.Along.{Left, behind-one}
use Rattle.law_run.proofs.Steps.{disk-tells}

-- a core step adds the input that its trace tells
core-step-gains : (program : Program) (fingerprint : List ℕ) (found : Logs) (here : ComId → ℕ) (p : SystemState) (v : Transition) → IsPlayable program → HasBytes program → IsEvent program v.trace.event → KeepsLogs fingerprint p → CoreStep program fingerprint p v.trace.event v.trace v.state → IsExplainedInBytes program found here p.world →
    (c : ComId) → is_a_pcom program c ≡ true → filter_map input_in (log_at (forced_logs v.state.world) c) ≡ filter_map input_in (log_at (forced_logs p.world) c) ++ option_to_list (received_by c v.trace)
core-step-gains program fingerprint found here p v play bytes event keeps step kept =
    events_gain_inputs program found here p.world v.trace.event step.outcome (record { world = v.state.world; trace = v.trace }) event.stop (disk-tells program fingerprint found here p v play bytes event keeps step kept) step.happens kept.explained

one-more : (xs : List (ℕ × List ℤ)) (o : Option (ℕ × List ℤ)) (ys : List (ℕ × List ℤ)) → (xs ++ option_to_list o) ++ ys ≡ xs ++ cons_option o ys
one-more xs None ys = ap (λ l. l ++ ys) (append-nil xs)
one-more xs (Some x) ys = append_assoc xs (x ∷ []) ys

all-gain : (program : Program) (fingerprint : List ℕ) (x : PolicyIntervals) (b : Agenda) (found : Logs) (here : ComId → ℕ) (p : SystemState) (vs : List Transition) → IsPlayable program → HasFlatParts program → HasBytes program →
    Left program fingerprint x b found here p vs → GainsInputs program (forced_logs p.world) vs (last_state p vs).world
all-gain program fingerprint x b found here p [] play flat bytes l c pcom = sym (append-nil (filter_map input_in (log_at (forced_logs p.world) c)))
all-gain program fingerprint x b found here p (v ∷ vs) play flat bytes l c pcom =
    let next = next-is program p.world x l.agenda _ l.may l.runs.1 in
    all-gain program fingerprint x b found (here_behind here p.world v.state.world) v.state vs play flat bytes (behind-one program fingerprint x b found here p v vs play flat bytes l) c pcom
    ∙ ap (λ is. is ++ filter_map (received_by c) (traces_of vs)) (core-step-gains program fingerprint found here p v play bytes next.event l.keeps l.runs.2 l.explained c pcom)
    ∙ one-more (filter_map input_in (log_at (forced_logs p.world) c)) (received_by c v.trace) (filter_map (received_by c) (traces_of vs))

pub executions_gain_inputs : ExecutionsGainInputs
executions_gain_inputs program fingerprint x a b p vs found here play flat bytes may keeps runs f =
    all-gain program fingerprint x b found here p vs play flat bytes (record { agenda = a; may = may; keeps = keeps; runs = runs; explained = f })
