use Rattle.std.proofs.Common.{◌-◌, length}
use Rattle.def_state.specs.Image.{link_bytes}
use Rattle.ic_ckpt.proofs.Spelling.{SoFar}
use Rattle.ic_ckpt.proofs.writing.put_links.Given as goal

abbrev pub invariant-loop-to : goal.invariant-loop-to
invariant-loop-to l = SoFar link_bytes l.outbox.seen.links l.i l.body.items

abbrev pub decreases-loop-to : goal.decreases-loop-to
decreases-loop-to l = length l.outbox.seen.links - l.i
