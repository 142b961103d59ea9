use Rattle.std.proofs.Common.{arith}
use Rattle.std.proofs.lemmas.Grind.{common_steps}
use Rattle.ic_replay.proofs.Turns.{stamp_at}
use Rattle.ic_replay.proofs.replay.Replay.waits_at.Goals as goal

pub returns-in_err-stamp : goal.returns-in_err-stamp
returns-in_err-stamp c =
    let at = stamp_at c.self.inside.records c.self.inside.next c.self.inside.waiting c.self.invariant.stored_is in
    grind (arith, common_steps, at)

pub returns-in-Take : goal.returns-in-Take
returns-in-Take c =
    let at = stamp_at c.self.inside.records c.self.inside.next c.self.inside.waiting c.self.invariant.stored_is in
    grind (arith, common_steps, at)

pub returns-in_default : goal.returns-in_default
returns-in_default c =
    let at = stamp_at c.self.inside.records c.self.inside.next c.self.inside.waiting c.self.invariant.stored_is in
    grind (arith, common_steps, at)
