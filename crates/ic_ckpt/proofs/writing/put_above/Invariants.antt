use Rattle.std.proofs.Common.{◌-◌, length}
use Rattle.def_log.specs.Spelling.{number}
use Rattle.ic_in.specs.Senders.{sender_of}
use Rattle.ic_ckpt.proofs.Spelling.{SoFar, numbers_of}
use Rattle.ic_ckpt.proofs.writing.put_above.Given as goal

abbrev pub invariant-loop-k : goal.invariant-loop-k
invariant-loop-k l = SoFar number (numbers_of (sender_of l.inbox.seen.taken l.i)) l.j l.body.items

abbrev pub decreases-loop-k : goal.decreases-loop-k
decreases-loop-k l = length (numbers_of (sender_of l.inbox.seen.taken l.i)) - l.j
