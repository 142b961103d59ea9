use Rattle.std.proofs.Common.{◌≡◌, length}
use Rattle.test_live.proofs.chain.blank_disks.Given as goal

abbrev pub invariant-loop-made : goal.invariant-loop-made
invariant-loop-made l = length l.disks.items ≡ l.made
