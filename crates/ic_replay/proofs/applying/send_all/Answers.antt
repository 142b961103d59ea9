use Rattle.std.proofs.Common.{◌≤◌, ◌+◌, ◌∙◌, ap, arith}
use Rattle.ic_base.specs.declared.limits.TheConstants.{GREATEST_NUMBER}
use Rattle.def_state.specs.Outbox.{Outbox}
use Rattle.ic_replay.specs.Limits.{are_within}
use Rattle.ic_replay.proofs.Sending.{next_at}
use Rattle.ic_replay.proofs.applying.send_all.Goals as goal

pub overflow_add-k : goal.overflow_add-k
overflow_add-k c =
    let within = ap (λ (o : Outbox). are_within o.links) c.loop-send.invariant.sent ∙ c.requires.limits in
    let next : c.sent-k.result + 1 ≤ GREATEST_NUMBER = omega (arith, c.sent-k.ensures, next_at c.args.«com» c.args.clock c.args.at c.loop-send.outbox.seen c.args.sends.now c.loop-send.send-index c.send-item.result c.loop-send-test.true c.send-item.is within) in
    omega arith
