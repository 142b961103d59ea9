use Rattle.std.proofs.Common.{arith}
use Rattle.ic_out.proofs.Dues.{due-few}
use Rattle.ic_pcom.proofs.telling.most_put.Goals as goal

pub returns-then-outgoing : goal.returns-then-outgoing
returns-then-outgoing c forced reach = omega (arith, due-few forced c.args.outbox.now.seen.held, c.left_to_put.ensures.enough)
