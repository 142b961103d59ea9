-- When the named texts of a run are refused, and for what.
use Rattle.std.specs.Prelude.{◌≡◌, ℕ, List, Option, None, Some, Err}
use Rattle.ic_base.specs.declared.scenario.Program.{Program}
use Rattle.ic_base.specs.declared.events.Schedule.{Schedule}
use Rattle.def_syntax.specs.Commands.{TextNames}
use Rattle.def_syntax.specs.Scenario.{IsScenario, IsRefused}
use Rattle.def_syntax.specs.Schedule.{Forms, schedule_in}
use Rattle.ic_plan.specs.Asking.{Held, Holds, SaysSchedule, policy_in}
use Rattle.ic_plan.specs.declared.run_texts.TextsRefused.{TextsRefused}
use Rattle.ic_plan.specs.declared.run_texts.TextsRefused.TheVariants as refused

-- what the text of a scenario is refused for
abbrev pub RefusesScenario : TextsRefused → List ℕ → Type 0
RefusesScenario (refused.Scenario line cause) text = IsRefused text line cause
RefusesScenario _ text = ⊥

-- what the text of a schedule in these forms is refused for
abbrev pub RefusesSchedule : Forms → Program → TextsRefused → List ℕ → Type 0
RefusesSchedule fs program (refused.Schedule line cause) text = schedule_in fs program text ≡ Err (line, cause)
RefusesSchedule fs program _ text = ⊥

-- what the text of a policy is refused for
abbrev pub RefusesPolicy : TextsRefused → List ℕ → Type 0
RefusesPolicy (refused.Policy e) text = policy_in text ≡ Err e
RefusesPolicy _ text = ⊥

-- a text is refused so, or memory is wanting
abbrev pub OrMemory : (TextsRefused → List ℕ → Type 0) → List ℕ → TextsRefused → Type 0
OrMemory P text refused.Memory = Unit {0}
OrMemory P text e = P e text

-- a named text is refused so; a text that wasn't read and want of memory say nothing of it
abbrev pub Refuses : (TextsRefused → List ℕ → Type 0) → Held → List ℕ → TextsRefused → Type 0
Refuses P held name refused.Read = Unit {0}
Refuses P held name refused.Memory = Unit {0}
Refuses P held name e = Holds held name (P e)

-- the scenario is that of a program, of which this holds
pub record BehindScenario (held : Held) (name : List ℕ) (P : Program → Type 0) : Type 0 where
  pub program : Program
  pub scenario : Holds held name (λ text. IsScenario text program)
  pub refused : P program

-- the schedule is one of the program in these forms, and this holds
pub record BehindSchedule (fs : Forms) (held : Held) (name : List ℕ) (program : Program) (P : Type 0) : Type 0 where
  pub schedule : Schedule
  pub events : Holds held name (SaysSchedule fs program schedule)
  pub refused : P

-- the policy that is named is refused so
abbrev pub RefusesNamed : Held → Option (List ℕ) → TextsRefused → Type 0
RefusesNamed held None e = ⊥
RefusesNamed held (Some name) e = Holds held name (RefusesPolicy e)

-- The first of the texts that is refused is refused so. A text that wasn't read and want of memory say nothing of them.
abbrev pub AreRefused : Forms → TextNames → Held → TextsRefused → Type 0
AreRefused fs names held (refused.Scenario line cause) = Holds held names.scenario (λ text. IsRefused text line cause)
AreRefused fs names held (refused.Schedule line cause) =
    BehindScenario held names.scenario (λ program. Holds held names.schedule (λ text. schedule_in fs program text ≡ Err (line, cause)))
AreRefused fs names held (refused.Policy e) =
    BehindScenario held names.scenario (λ program. BehindSchedule fs held names.schedule program (RefusesNamed held names.policy (refused.Policy e)))
AreRefused fs names held refused.Read = Unit {0}
AreRefused fs names held refused.Memory = Unit {0}

-- the same of the texts of a run that serves lines, which has no schedule
abbrev pub AreServedRefused : List ℕ → Option (List ℕ) → Held → TextsRefused → Type 0
AreServedRefused scenario policy held (refused.Scenario line cause) = Holds held scenario (λ text. IsRefused text line cause)
AreServedRefused scenario policy held (refused.Schedule line cause) = ⊥
AreServedRefused scenario policy held (refused.Policy e) = BehindScenario held scenario (λ program. RefusesNamed held policy (refused.Policy e))
AreServedRefused scenario policy held refused.Read = Unit {0}
AreServedRefused scenario policy held refused.Memory = Unit {0}
