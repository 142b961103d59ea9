use Rattle.std.proofs.Common.{◌≡◌, ◌≤◌, ◌<◌, ℕ, false}
use Rattle.ic_network.specs.Lanes.{is_waiting}
use Rattle.ic_network.proofs.lanes.Lanes.behind.Given as goal

abbrev pub invariant-loop-i : goal.invariant-loop-i
invariant-loop-i l = (k : ℕ) → l.number ≤ k → k < l.i → is_waiting l.self-inside.waits.items k ≡ false
