use Rattle.std.proofs.Common.{◌≡◌, take}
use Rattle.ic_gate.proofs.spelled.SpelledRecords.of.Given as goal

abbrev pub invariant-loop-stored : goal.invariant-loop-stored
invariant-loop-stored l = l.all ≡ take l.stored-index l.records
