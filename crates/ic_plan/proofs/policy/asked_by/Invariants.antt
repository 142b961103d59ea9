use Rattle.std.proofs.Common.{◌≡◌}
use Rattle.toml.specs.View.{members_view}
use Rattle.def_policy.specs.Policies.{with_members, defaults, IsInRange}
use Rattle.ic_plan.proofs.policy.asked_by.Given as goal

abbrev pub invariant-loop-key : goal.invariant-loop-key
invariant-loop-key l =
    (goal.iterator-loop-key).can_next l.key-iterator ×
    (goal.iterator-loop-key).is_finite l.key-iterator ×
    (with_members defaults (members_view l.table.entries) ≡ with_members l.policy (members_view l.key-iterator)) ×
    IsInRange l.policy
