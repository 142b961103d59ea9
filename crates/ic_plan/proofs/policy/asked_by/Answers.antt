use Rattle.std.proofs.Common.{◌≡◌, rules}
use Rattle.std.specs.Prelude.{Err}
use Rattle.toml.specs.View.{table_view}
use Rattle.def_policy.specs.Policies.{with_members, defaults}
use Rattle.ic_plan.proofs.FirstKeys.{first_refusal}
use Rattle.ic_plan.proofs.policy.asked_by.Goals as goal

pub returns-in-Err-clause-first : goal.returns-in-Err-clause-first
returns-in-Err-clause-first c =
    let is : with_members defaults (table_view c.args.table.now) ≡ Err c.in-Err.e = search rules in
    first_refusal c.args.table.now.entries defaults c.in-Err.e c.iter-key-items.ensures.ordered is
