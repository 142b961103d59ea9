use Rattle.std.proofs.Common.{◌≡◌, take}
use Rattle.ic_replay.proofs.prepared.copied_dones.Given as goal

abbrev pub invariant-loop-d : goal.invariant-loop-d
invariant-loop-d l = l.copies ≡ take l.d-index l.done
