-- What the named texts of a run ask for.
use Rattle.std.specs.Prelude.{◌≡◌, ℕ, nat_lt, List, length, cond, Option, None, Some, Result, Ok, Err}
use Rattle.ic_base.specs.declared.limits.TheConstants.{TEXT_BYTES}
use Rattle.sha2.specs.Sha256.{sha256}
use Rattle.ic_base.specs.declared.report.Policy.{Policy}
use Rattle.ic_base.specs.declared.refusals.PolicyRefused.{PolicyRefused}
use Rattle.ic_base.specs.declared.refusals.PolicyRefused.TheVariants.{Range}
use Rattle.ic_base.specs.declared.scenario.Program.{Program}
use Rattle.ic_base.specs.declared.events.Schedule.{Schedule}
use Rattle.def_syntax.specs.Commands.{TextNames}
use Rattle.def_syntax.specs.Scenario.{IsScenario}
use Rattle.def_syntax.specs.Schedule.{Forms, schedule_in}
use Rattle.def_policy.specs.Policies.{policy_of, defaults}
use Rattle.ic_plan.specs.declared.run_texts.RunTexts.{RunTexts}
use Rattle.ic_plan.specs.declared.run_texts.ServedTexts.{ServedTexts}

-- the text that each name holds, if it holds one
abbrev pub Held : Type 0
Held = List ℕ → Option (List ℕ)

-- the name holds a text of which this is true
pub record Holds (held : Held) (name : List ℕ) (P : List ℕ → Type 0) : Type 0 where
  pub text : List ℕ
  pub there : held name ≡ Some text
  pub says : P text

-- the policy that a text asks for; one that is too long asks for what is out of range
abbrev pub policy_in : List ℕ → Result Policy PolicyRefused
policy_in text = cond (nat_lt TEXT_BYTES (length text)) (Err Range) (policy_of text)

-- the text is a scenario of this program, and has this fingerprint
pub record SaysProgram (program : Program) (fingerprint : List ℕ) (text : List ℕ) : Type 0 where
  pub scenario : IsScenario text program
  pub hash : fingerprint ≡ sha256 text

-- the text is this schedule of the program, in these forms
abbrev pub SaysSchedule : Forms → Program → Schedule → List ℕ → Type 0
SaysSchedule fs program s text = schedule_in fs program text ≡ Ok (s.events, s.halts)

-- the policy is that of the named text, or the default where none is named
abbrev pub IsPolicyOf : Held → Option (List ℕ) → Policy → Type 0
IsPolicyOf held None p = p ≡ defaults
IsPolicyOf held (Some name) p = Holds held name (λ text. policy_in text ≡ Ok p)

-- the texts with these names ask for this, with a schedule in these forms
pub record AreTexts (fs : Forms) (names : TextNames) (held : Held) (r : RunTexts) : Type 0 where
  pub scenario : Holds held names.scenario (SaysProgram r.program r.fingerprint)
  pub schedule : Holds held names.schedule (SaysSchedule fs r.program r.schedule)
  pub policy : IsPolicyOf held names.policy r.policy

-- the texts with these names ask for this, of a run that serves lines
pub record AreServedTexts (scenario_name : List ℕ) (policy_name : Option (List ℕ)) (held : Held) (r : ServedTexts) : Type 0 where
  pub scenario : Holds held scenario_name (SaysProgram r.program r.fingerprint)
  pub policy : IsPolicyOf held policy_name r.policy
