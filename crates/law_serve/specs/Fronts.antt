-- The front of a served life has just the requests of its logs.
use Rattle.def_client.specs.declared.asked.Asked.TheVariants.{New}
use Rattle.std.specs.Prelude.{◌≡◌, ℕ, true, false, List}
use Rattle.ic_base.specs.declared.scenario.Program.{Program}
use Rattle.ic_base.specs.Programs.{is_a_pcom}
use Rattle.def_step.specs.Settle.{PolicyIntervals}
use Rattle.def_facts.specs.Logs.{Logs, log_at}
use Rattle.def_facts.specs.World.{forced_logs}
use Rattle.def_plain.specs.Plain.{PlainWorld}
use Rattle.def_rounds.specs.Rounds.{state_after, Round, AreRounds, side_after}
use Rattle.def_run.specs.SystemStates.{SystemState}
use Rattle.def_client.specs.Fronts.{Request, Front, ask}
use Rattle.def_client.specs.Rebuilding.{front_of, HasAll}
use Rattle.def_serve.specs.Lines.{Line, Note, serving}
use Rattle.def_serve.specs.Promises.{has_numbers}
use Rattle.law_client.specs.Rounds.{Stands, MayHappen}
use Rattle.law_run.specs.ProgramBytes.{IsFit}

-- built again from logs
abbrev pub RebuiltFrontsHaveAll : Type 0
RebuiltFrontsHaveAll = (program : Program) (v : PlainWorld) (logs : Logs) → HasAll program (front_of v logs) logs

-- a request is new exactly where no input with its numbers stands in its log
abbrev pub NewWhereNone : Type 0
NewWhereNone = (program : Program) (front : Front) (logs : Logs) (r : Request) → HasAll program front logs → is_a_pcom program r.who ≡ true →
    (ask front r ≡ New → has_numbers r.args (log_at logs r.who) ≡ false) × (has_numbers r.args (log_at logs r.who) ≡ false → ask front r ≡ New)

-- while lines are served
abbrev pub ServedFrontsHaveAll : Type 0
ServedFrontsHaveAll = (program : Program) (fingerprint : List ℕ) (x : PolicyIntervals) (found : Logs) (front : Front) (p : SystemState) (lines : List Line) (rs : List (Round Front Note)) → IsFit program → MayHappen serving program lines → Stands program fingerprint found p →
    HasAll program front (forced_logs p.world) → AreRounds serving program fingerprint x front p lines rs → HasAll program (side_after serving front rs) (forced_logs (state_after p rs).world)
