use Rattle.std.proofs.Common.{ap, length, arith}
use Rattle.std.specs.Prelude.{filter}
use Rattle.def_state.specs.Outbox.{is_due}
use Rattle.ic_out.proofs.Dues.{none-passes, due-few}
use Rattle.ic_out.proofs.outbox.Outbox.left_due.Goals as goal

pub returns-then-forced-self-clause-enough : goal.returns-then-forced-self-clause-enough
returns-then-forced-self-clause-enough c =
    omega (arith, ap (λ v. length (filter (is_due c.args.forced) v.seen.held)) c.self.view_is, none-passes c.args.forced c.self.inside.quiet c.self.inside.rows.items c.if-forced-self.true c.self.invariant.later)

pub returns-else-forced-self-clause-enough : goal.returns-else-forced-self-clause-enough
returns-else-forced-self-clause-enough c = omega (arith, c.left_to_put.ensures.enough, due-few c.args.forced c.args.self.now.seen.held)
