use Rattle.std.proofs.Common.{ap, length, arith}
use Rattle.ic_in.proofs.Louds.{loud-few}
use Rattle.ic_pcom.specs.Landing.{may_tell}
use Rattle.ic_pcom.proofs.telling.most_told.Goals as goal

pub returns-then-outgoing-2 : goal.returns-then-outgoing-2
returns-then-outgoing-2 c forced reach =
    let receipts = c.args.inbox.now.seen.receipts in
    omega (arith, ap (λ b. length (may_tell b forced receipts)) c.if-outgoing.false, loud-few forced receipts, c.left_to_tell.ensures.enough)
