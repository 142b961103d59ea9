use Rattle.std.proofs.Common.{◌≡◌, ◌<◌, ◌≤◌, false, ℕ}
use Rattle.ic_moves.specs.Networks.{waits_between}
use Rattle.ic_moves.proofs.network.first_between.Given as goal

abbrev pub invariant-loop-i : goal.invariant-loop-i
invariant-loop-i l = (k : ℕ) → l.start ≤ k → k < l.i → waits_between l.packets l.waits l.from l.to k ≡ false
