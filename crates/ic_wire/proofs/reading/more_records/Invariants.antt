use Rattle.std.proofs.Common.{length}
use Rattle.ic_wire.proofs.Placing.{IsOn}
use Rattle.ic_wire.proofs.reading.more_records.Given as goal

abbrev pub invariant-loop-rest : goal.invariant-loop-rest
invariant-loop-rest l = IsOn l.fn.before l.records l.at l.bytes l.rest

abbrev pub decreases-loop-rest : goal.decreases-loop-rest
decreases-loop-rest l = length l.rest
