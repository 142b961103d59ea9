-- An output is shown again only where its Pcom crashed or was stopped after the earlier showing.
use Rattle.std.specs.Prelude.{◌≡◌, List, ◌∷◌, ◌++◌, ℕ, Some, Contains}
use Rattle.ic_base.specs.declared.messages.ComId.{ComId}
use Rattle.ic_base.specs.declared.messages.Output.{Output}
use Rattle.ic_base.specs.declared.record.Record.{Record}
use Rattle.ic_base.specs.declared.scenario.Program.{Program}
use Rattle.def_step.specs.Settle.{PolicyIntervals}
use Rattle.def_step.specs.World.{Down, node_at}
use Rattle.def_run.specs.SystemStates.{SystemState, Transition, KeepsLogs, last_state}
use Rattle.def_run.specs.Executions.{Agenda, Executes}
use Rattle.def_facts.specs.Flat.{HasFlatParts}
use Rattle.def_facts.specs.Logs.{Logs}
use Rattle.def_facts.specs.Playable.{IsPlayable}
use Rattle.law_run.specs.ProgramBytes.{HasBytes}
use Rattle.law_step.specs.Steps.{newly_shown}
use Rattle.law_run.specs.Executions.{IsExplainedInBytes, MayCome}

-- c is down behind some of these transitions
pub record GoesDown (c : ComId) (p : SystemState) (vs : List Transition) : Type 0 where
  pub front : List Transition
  pub back : List Transition
  pub is : vs ≡ front ++ back
  pub log : List Record
  pub down : node_at (last_state p front).world c ≡ Some (Down log)

-- two transitions of an execution, the first of which shows an output and the second one of its number: between them c was down
abbrev pub ShownAgainBehindACrash : Type 0
ShownAgainBehindACrash = (program : Program) (fingerprint : List ℕ) (x : PolicyIntervals) (a b : Agenda) (p : SystemState) (us ms ws : List Transition) (v w : Transition) (found : Logs) (here : ComId → ℕ) → IsPlayable program → HasFlatParts program → HasBytes program → MayCome program a → KeepsLogs fingerprint p →
    Executes program fingerprint x a p (us ++ (v ∷ (ms ++ (w ∷ ws)))) b → IsExplainedInBytes program found here p.world →
    (c : ComId) (o again : Output) → Contains (newly_shown c (last_state p us).world v.state.world) o → Contains (newly_shown c (last_state v.state ms).world w.state.world) again → again.m ≡ o.m → GoesDown c v.state ms
