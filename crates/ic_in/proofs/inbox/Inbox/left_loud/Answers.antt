use Rattle.std.proofs.Common.{ap, length, arith}
use Rattle.std.specs.Prelude.{filter}
use Rattle.def_state.specs.Inbox.{is_loud}
use Rattle.ic_in.proofs.Louds.{none-passes, loud-few}
use Rattle.ic_in.proofs.inbox.Inbox.left_loud.Goals as goal

pub returns-then-forced-self-clause-enough : goal.returns-then-forced-self-clause-enough
returns-then-forced-self-clause-enough c =
    omega (arith, ap (λ v. length (filter (is_loud c.args.forced) v.seen.receipts)) c.self.view_is, none-passes c.args.forced c.self.inside.quiet c.self.inside.rows.items c.if-forced-self.true c.self.invariant.later)

pub returns-else-forced-self-clause-enough : goal.returns-else-forced-self-clause-enough
returns-else-forced-self-clause-enough c = omega (arith, c.left_to_tell.ensures.enough, loud-few c.args.forced c.args.self.now.seen.receipts)
