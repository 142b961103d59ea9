-- Refusals of the readers as refusals of the texts of a run, of which want of memory is none.
use Rattle.std.specs.Prelude.{ℕ}
use Rattle.ic_base.specs.declared.refusals.Cause.{Cause}
use Rattle.ic_base.specs.declared.refusals.Cause.TheVariants as causes
use Rattle.ic_base.specs.declared.refusals.PolicyRefused.{PolicyRefused}
use Rattle.ic_base.specs.declared.refusals.PolicyRefused.TheVariants as policies
use Rattle.ic_plan.specs.declared.run_texts.TextsRefused.{TextsRefused}
use Rattle.ic_plan.specs.declared.run_texts.TextsRefused.TheVariants as refused

abbrev pub scenario_refusal : ℕ → Cause → TextsRefused
scenario_refusal line causes.Memory = refused.Memory
scenario_refusal line cause = refused.Scenario line cause

abbrev pub schedule_refusal : ℕ → Cause → TextsRefused
schedule_refusal line causes.Memory = refused.Memory
schedule_refusal line cause = refused.Schedule line cause

abbrev pub policy_refusal : PolicyRefused → TextsRefused
policy_refusal policies.Memory = refused.Memory
policy_refusal e = refused.Policy e
