use Rattle.std.proofs.Common.{◌≡◌, take}
use Rattle.ic_ckpt.proofs.state.copied_dones.Given as goal

abbrev pub invariant-loop-done : goal.invariant-loop-done
invariant-loop-done l = l.copies ≡ take l.done-index l.dones
