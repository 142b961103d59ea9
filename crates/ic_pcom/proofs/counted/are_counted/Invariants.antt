use Rattle.std.proofs.Common.{take}
use Rattle.std.specs.List.{AllByRecursion}
use Rattle.ic_wire.specs.Placed.{IsCounted}
use Rattle.ic_pcom.proofs.counted.are_counted.Given as goal

abbrev pub invariant-loop-stored : goal.invariant-loop-stored
invariant-loop-stored l = AllByRecursion IsCounted (take l.stored-index l.records)
