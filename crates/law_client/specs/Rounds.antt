-- Along rounds each state is explained, and each log gains what was taken.
use Rattle.std.specs.Prelude.{◌≡◌, ℕ, true, List, filter_map, Contains}
use Rattle.ic_base.specs.declared.messages.ComId.{ComId}
use Rattle.ic_base.specs.declared.events.Event.{Event}
use Rattle.ic_base.specs.declared.scenario.Program.{Program}
use Rattle.def_step.specs.World.{World}
use Rattle.def_run.specs.CrashFree.{input_in}
use Rattle.def_rounds.specs.Rounds.{Ways, Happens}
use Rattle.def_run.specs.SystemStates.{SystemState, KeepsLogs}
use Rattle.def_facts.specs.Logs.{Logs, log_at}
use Rattle.def_facts.specs.World.{forced_logs}
use Rattle.law_run.specs.Executions.{IsExplainedInBytes}
use Rattle.law_syntax.specs.Events.{IsEvent}
use Rattle.ic_base.specs.Programs.{is_a_pcom}

-- it is explained, whatever was shown in the present lives, and the disks keep its logs
pub record Stands (program : Program) (fingerprint : List ℕ) (found : Logs) (p : SystemState) : Type 0 where
  pub here : ComId → ℕ
  pub explained : IsExplainedInBytes program found here p.world
  pub keeps : KeepsLogs fingerprint p

abbrev pub SameInputs : Program → SystemState → SystemState → Type 0
SameInputs program p q = (c : ComId) → is_a_pcom program c ≡ true → filter_map input_in (log_at (forced_logs q.world) c) ≡ filter_map input_in (log_at (forced_logs p.world) c)

module _ {I S N : Type 0} (ways : Ways I S N) where
  -- the event of an item, if it is one, may come
  abbrev pub MayHappen : Program → List I → Type 0
  MayHappen program items = (i : I) → Contains items i → (w : World) (s : S) (e : Event) → ways.turn w s i ≡ Happens e → IsEvent program e

  -- a step of another kind leads from a state that stands to one that does, and adds no input
  abbrev pub LeapsKeep : Program → List ℕ → Logs → Type 0
  LeapsKeep program fingerprint found = (s : S) (p q : SystemState) (note : N) → ways.leap s p note q → Stands program fingerprint found p → Stands program fingerprint found q × SameInputs program p q
