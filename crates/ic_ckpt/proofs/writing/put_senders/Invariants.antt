use Rattle.std.proofs.Common.{◌-◌, length}
use Rattle.def_state.specs.Image.{senders_of, sender_bytes}
use Rattle.ic_ckpt.proofs.Spelling.{SoFar}
use Rattle.ic_ckpt.proofs.writing.put_senders.Given as goal

abbrev pub invariant-loop-from : goal.invariant-loop-from
invariant-loop-from l = SoFar sender_bytes (senders_of l.inbox.seen) l.i l.body.items

abbrev pub decreases-loop-from : goal.decreases-loop-from
decreases-loop-from l = length (senders_of l.inbox.seen) - l.i
