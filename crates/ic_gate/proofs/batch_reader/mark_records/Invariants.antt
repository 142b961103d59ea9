use Rattle.std.proofs.Common.{length}
use Rattle.ic_gate.proofs.Readers.{AreMarked}
use Rattle.ic_gate.proofs.batch_reader.mark_records.Given as goal

abbrev pub invariant-loop-rest : goal.invariant-loop-rest
invariant-loop-rest l = AreMarked l.initial.ends l.initial.kinds l.initial.places l.kept l.at l.payload l.rest l.ends l.kinds l.places l.checkpoint

abbrev pub decreases-loop-rest : goal.decreases-loop-rest
decreases-loop-rest l = length l.rest
