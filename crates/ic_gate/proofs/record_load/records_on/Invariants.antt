use Rattle.std.proofs.Common.{◌≤◌, ◌-◌, ◌+◌, length}
use Rattle.std.specs.Prelude.{IfOk}
use Rattle.ic_gate.proofs.RecordWalks.{IsWalkedTo}
use Rattle.ic_gate.proofs.record_load.records_on.Given as goal

abbrev pub invariant-loop-all : goal.invariant-loop-all
invariant-loop-all l = record {
  read : IsWalkedTo l.fn.reader l.start l.fn.reader.rest l.slots l.gate l.so_far l.all;
  high : l.start ≤ l.gate;
  inside : l.gate ≤ l.start + length l.fn.reader.rest;
  few : IfOk l.so_far (λ n. n ≤ length l.slots);
}

abbrev pub decreases-loop-all : goal.decreases-loop-all
decreases-loop-all l = l.start + length l.fn.reader.rest - l.gate
