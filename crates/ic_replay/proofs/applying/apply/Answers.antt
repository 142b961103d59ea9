use Rattle.std.proofs.Common.{arith}
use Rattle.ic_replay.proofs.applying.apply.Goals as goal

pub returns-in-Some-clause-room : goal.returns-in-Some-clause-room
returns-in-Some-clause-room c a b d room = c.come_to.ensures.room a b d (c.enter.ensures.room _ b _ (rw c.in-Some.is at room))

pub returns-in_default-clause-room : goal.returns-in_default-clause-room
returns-in_default-clause-room c a b d room =
    let kept = rw c.in_default.is at room in
    c.enter.ensures.room a b d (record { messages = omega (arith, kept.messages); receipts = kept.receipts; outputs = omega (arith, kept.outputs) })
