use Rattle.std.proofs.Common.{sym, ◌∙◌, rules}
use Rattle.ic_plan.proofs.Documents.{policy_asked, no_policy, ok_asked, err_asked}
use Rattle.ic_plan.proofs.policy.read_policy.Goals as goal

pub returns-in-Ok-clause-accepted : goal.returns-in-Ok-clause-accepted
returns-in-Ok-clause-accepted c = ok_asked _ _ (policy_asked _ _ c.in-Ok.ensures.ok.0 c.in-Ok.ensures.ok.1 ∙ sym c.asked_by.ensures.value)

pub returns-in-Ok-clause-refused : goal.returns-in-Ok-clause-refused
returns-in-Ok-clause-refused c = err_asked _ _ (policy_asked _ _ c.in-Ok.ensures.ok.0 c.in-Ok.ensures.ok.1 ∙ sym c.asked_by.ensures.value)

pub returns-else-is_memory-clause-refused : goal.returns-else-is_memory-clause-refused
returns-else-is_memory-clause-refused c = no_policy _ (c.in-Err.ensures.refused (search rules))
