-- Along an execution each state is explained.
use Rattle.std.proofs.Common.{sym, subst, ℕ, List, [], ◌∷◌, ◌++◌}
use Rattle.std.proofs.lemmas.List.{append-nil}
use Rattle.ic_base.specs.declared.messages.ComId.{ComId}
use Rattle.ic_base.specs.declared.scenario.Program.{Program}
use Rattle.def_step.specs.Settle.{PolicyIntervals}
use Rattle.def_run.specs.SystemStates.{SystemState, Transition, KeepsLogs, last_state}
use Rattle.def_run.specs.Executions.{Agenda, Executes, agenda_behind}
use Rattle.def_facts.specs.Flat.{HasFlatParts}
use Rattle.def_facts.specs.Logs.{Logs}
use Rattle.def_facts.specs.Playable.{IsPlayable}
use Rattle.law_step.specs.Steps.{here_behind}
use Rattle.law_run.specs.Executions.{IsExplainedInBytes, MayCome, ExecutionsStayExplained, here_along}
use Rattle.law_run.proofs.Agendas.{next-is}
use Rattle.law_run.proofs.Steps.{core_steps_keep}
use Rattle.law_run.specs.ProgramBytes.{HasBytes}

-- what is left of an execution behind its first transitions
pub record Left (program : Program) (fingerprint : List ℕ) (x : PolicyIntervals) (b : Agenda) (found : Logs) (here : ComId → ℕ) (p : SystemState) (ws : List Transition) : Type 0 where
  pub agenda : Agenda
  pub may : MayCome program agenda
  pub keeps : KeepsLogs fingerprint p
  pub runs : Executes program fingerprint x agenda p ws b
  pub explained : IsExplainedInBytes program found here p.world

pub behind-one : (program : Program) (fingerprint : List ℕ) (x : PolicyIntervals) (b : Agenda) (found : Logs) (here : ComId → ℕ) (p : SystemState) (v : Transition) (ws : List Transition) → IsPlayable program → HasFlatParts program → HasBytes program →
    Left program fingerprint x b found here p (v ∷ ws) → Left program fingerprint x b found (here_behind here p.world v.state.world) v.state ws
behind-one program fingerprint x b found here p v ws play flat bytes l =
    let next = next-is program p.world x l.agenda _ l.may l.runs.1 in
    record {
      agenda = agenda_behind l.agenda l.runs.0 v.trace;
      may = next.left;
      keeps = l.runs.2.logs;
      runs = l.runs.3;
      explained = core_steps_keep program fingerprint found here p v play flat bytes next.event l.keeps l.runs.2 l.explained;
    }

pub behind-all : (program : Program) (fingerprint : List ℕ) (x : PolicyIntervals) (b : Agenda) (found : Logs) (here : ComId → ℕ) (p : SystemState) (us ws : List Transition) → IsPlayable program → HasFlatParts program → HasBytes program →
    Left program fingerprint x b found here p (us ++ ws) → Left program fingerprint x b found (here_along here p us) (last_state p us) ws
behind-all program fingerprint x b found here p [] ws play flat bytes l = l
behind-all program fingerprint x b found here p (u ∷ us) ws play flat bytes l =
    behind-all program fingerprint x b found (here_behind here p.world u.state.world) u.state us ws play flat bytes (behind-one program fingerprint x b found here p u (us ++ ws) play flat bytes l)

pub executions_stay_explained : ExecutionsStayExplained
executions_stay_explained program fingerprint x a b p vs found here play flat bytes may keeps runs f us ws e =
    (behind-all program fingerprint x b found here p us ws play flat bytes (record {
      agenda = a;
      may = may;
      keeps = keeps;
      runs = subst (λ l. Executes program fingerprint x a p l b) e runs;
      explained = f;
    })).explained

-- so the whole execution leads to a state that is explained, whose disks keep its logs
pub at-the-end : (program : Program) (fingerprint : List ℕ) (x : PolicyIntervals) (a b : Agenda) (p : SystemState) (vs : List Transition) (found : Logs) (here : ComId → ℕ) → IsPlayable program → HasFlatParts program → HasBytes program → MayCome program a → KeepsLogs fingerprint p →
    Executes program fingerprint x a p vs b → IsExplainedInBytes program found here p.world → Left program fingerprint x b found (here_along here p vs) (last_state p vs) []
at-the-end program fingerprint x a b p vs found here play flat bytes may keeps runs f =
    behind-all program fingerprint x b found here p vs [] play flat bytes (record {
      agenda = a;
      may = may;
      keeps = keeps;
      runs = subst (λ l. Executes program fingerprint x a p l b) (sym (append-nil vs)) runs;
      explained = f;
    })

-- the last state keeps its logs, whatever the worlds are
pub executions_keep_logs : (program : Program) (fingerprint : List ℕ) (x : PolicyIntervals) (a b : Agenda) (p : SystemState) (vs : List Transition) → KeepsLogs fingerprint p → Executes program fingerprint x a p vs b → KeepsLogs fingerprint (last_state p vs)
executions_keep_logs program fingerprint x a b p [] keeps runs = keeps
executions_keep_logs program fingerprint x a b p (v ∷ vs) keeps runs = executions_keep_logs program fingerprint x (agenda_behind a runs.0 v.trace) b v.state vs runs.2.logs runs.3
