use Rattle.std.proofs.Common.{◌≤◌, ◌-◌, ◌+◌, length}
use Rattle.ic_gate.proofs.ClosedGates.{IsWalkedTo}
use Rattle.ic_gate.proofs.reading.closed_gate.Given as goal

abbrev pub invariant-loop-payload : goal.invariant-loop-payload
invariant-loop-payload l = record {
  walked : IsWalkedTo l.start l.bytes l.slots l.at l.forced l.named;
  few : l.start + l.forced ≤ l.at;
  inside : l.at ≤ l.start + length l.bytes;
  named : l.named ≤ length l.slots;
}

abbrev pub decreases-loop-payload : goal.decreases-loop-payload
decreases-loop-payload l = l.start + length l.bytes - l.at
