use Rattle.std.proofs.Common.{take}
use Rattle.std.specs.List.{AllByRecursion}
use Rattle.def_log.specs.Spelling.{Fits}
use Rattle.ic_failover.proofs.grammar.spell.Given as goal

abbrev pub invariant-loop-stored : goal.invariant-loop-stored
invariant-loop-stored l = AllByRecursion Fits (take l.stored-index l.records)
