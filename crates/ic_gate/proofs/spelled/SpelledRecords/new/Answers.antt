use Rattle.std.proofs.Common.{[]}
use Rattle.ic_gate.proofs.Encodings.{nothing, closed, seen}
use Rattle.ic_gate.proofs.spelled.SpelledRecords.new.Goals as goal

pub invariant_of-result : goal.invariant_of-result
invariant_of-result c = closed c.new.result c.new-2.result [] (nothing c.new.result c.new-2.result c.new.ensures c.new-2.ensures)

pub returns : goal.returns
returns c = seen c.new.result c.new-2.result [] (nothing c.new.result c.new-2.result c.new.ensures c.new-2.ensures)
