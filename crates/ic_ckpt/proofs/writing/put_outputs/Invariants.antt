use Rattle.std.proofs.Common.{◌-◌, length, map}
use Rattle.def_state.specs.Image.{output_bytes}
use Rattle.ic_ckpt.proofs.Spelling.{SoFar}
use Rattle.ic_ckpt.proofs.writing.put_outputs.Given as goal

abbrev pub invariant-loop-output : goal.invariant-loop-output
invariant-loop-output l = SoFar output_bytes (map (λ w. w.output) l.shelf.shelf.waiting) l.i l.body.items

abbrev pub decreases-loop-output : goal.decreases-loop-output
decreases-loop-output l = length l.shelf.shelf.waiting - l.i
