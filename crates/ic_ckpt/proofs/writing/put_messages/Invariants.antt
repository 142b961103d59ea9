use Rattle.std.proofs.Common.{◌-◌, length, map}
use Rattle.def_state.specs.Image.{message_bytes}
use Rattle.ic_ckpt.proofs.Spelling.{SoFar}
use Rattle.ic_ckpt.proofs.writing.put_messages.Given as goal

abbrev pub invariant-loop-message : goal.invariant-loop-message
invariant-loop-message l = SoFar message_bytes (map (λ h. h.msg) l.outbox.seen.held) l.i l.body.items

abbrev pub decreases-loop-message : goal.decreases-loop-message
decreases-loop-message l = length l.outbox.seen.held - l.i
