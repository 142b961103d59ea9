-- How a text is refused.
use Rattle.std.specs.Prelude.{◌≡◌, ℕ, Result, Err}
use Rattle.ic_base.specs.declared.refusals.Cause.{Cause}
use Rattle.ic_base.specs.declared.refusals.Cause.TheVariants.{Memory}
use Rattle.ic_base.specs.declared.refusals.ScenarioRefused.{ScenarioRefused}
use Rattle.def_syntax.specs.Scenario.{Refusal}

-- the reading of a text comes to this line and cause; want of memory says nothing of the text
abbrev pub RefusedAt : {X : Type 0} → Result X Refusal → ℕ → Cause → Type 0
RefusedAt read line Memory = line ≡ 0
RefusedAt read line cause = read ≡ Err (line, cause)

abbrev pub IsRefusedAs : {X : Type 0} → Result X Refusal → ScenarioRefused → Type 0
IsRefusedAs read e = RefusedAt read e.line e.cause

-- the line of a refusal for this cause
abbrev pub line_for : ℕ → Cause → ℕ
line_for line Memory = 0
line_for line _ = line
