use Rattle.std.proofs.Common.{◌≡◌, ◌≤◌, ◌-◌, ◌+◌, length}
use Rattle.ic_base.specs.declared.limits.TheConstants.{LOG_BYTES}
use Rattle.ic_former.specs.Gates.{AreBelow}
use Rattle.ic_former.proofs.ReadBatches.{IsReadTo}
use Rattle.ic_former.proofs.reading.read_batches.Given as goal

abbrev pub invariant-loop-frame : goal.invariant-loop-frame
invariant-loop-frame l = record { start : l.frame.start ≡ l.gate; read : IsReadTo l.gate l.bytes l.frame.batches l.frame.gate; inside : l.frame.gate ≤ l.gate + length l.bytes; below : AreBelow LOG_BYTES l.frame.batches }

abbrev pub decreases-loop-frame : goal.decreases-loop-frame
decreases-loop-frame l = l.gate + length l.bytes - l.frame.gate
