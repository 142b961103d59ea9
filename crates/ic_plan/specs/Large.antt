-- What the texts of the large run ask for.
use Rattle.std.specs.Prelude.{◌≡◌, ℕ, List, Err}
use Rattle.ic_base.specs.declared.refusals.Cause.{Cause}
use Rattle.ic_base.specs.declared.report.Policy.{Policy}
use Rattle.ic_base.specs.declared.report.ReportLevel.TheVariants.{Summary}
use Rattle.ic_base.specs.declared.scenario.Program.{Program}
use Rattle.def_policy.specs.Policies.{defaults}
use Rattle.def_syntax.specs.Large.{large_scenario, large_schedule}
use Rattle.def_syntax.specs.Scenario.{IsScenario, IsRefused}
use Rattle.def_syntax.specs.Schedule.{forms, schedule_of}
use Rattle.ic_plan.specs.Asking.{SaysProgram, SaysSchedule}
use Rattle.ic_plan.specs.declared.run_texts.RunTexts.{RunTexts}
use Rattle.ic_plan.specs.declared.run_texts.TextsRefused.{TextsRefused}
use Rattle.ic_plan.specs.declared.run_texts.TextsRefused.TheVariants as refused

-- a checkpoint behind each sixteen records of a component, and the summary alone is reported
abbrev pub large_policy : Policy
large_policy = record defaults { checkpoint_every = 16; report = Summary }

-- a scenario and a schedule ask for this, with the policy of the large run
pub record SayRun (scenario schedule : List ℕ) (r : RunTexts) : Type 0 where
  pub program : SaysProgram r.program r.fingerprint scenario
  pub events : SaysSchedule forms r.program r.schedule schedule
  pub policy : r.policy ≡ large_policy

-- the schedule of the program that a scenario says is refused at this line
pub record RefusesEvents (scenario schedule : List ℕ) (line : ℕ) (cause : Cause) : Type 0 where
  pub program : Program
  pub says : IsScenario scenario program
  pub refused : schedule_of program schedule ≡ Err (line, cause)

-- the scenario is refused so, or the schedule of its program is; want of memory says nothing of them
abbrev pub RefuseRun : List ℕ → List ℕ → TextsRefused → Type 0
RefuseRun scenario schedule (refused.Scenario line cause) = IsRefused scenario line cause
RefuseRun scenario schedule (refused.Schedule line cause) = RefusesEvents scenario schedule line cause
RefuseRun scenario schedule refused.Memory = Unit {0}
RefuseRun scenario schedule _ = ⊥

-- the texts of the large run with this number
abbrev pub IsLarge : ℕ → RunTexts → Type 0
IsLarge number = SayRun large_scenario (large_schedule number)

-- they are refused so
abbrev pub IsLargeRefused : ℕ → TextsRefused → Type 0
IsLargeRefused number = RefuseRun large_scenario (large_schedule number)
