use Rattle.std.proofs.Common.{◌≡◌, ◌++◌, take}
use Rattle.std.specs.List.{AllByRecursion, flat_map}
use Rattle.def_log.specs.Spelling.{write, IsWrite}
use Rattle.ic_wire.proofs.parts.put_writes.Given as goal

abbrev pub invariant-loop-written : goal.invariant-loop-written
invariant-loop-written l = (l.out.items ≡ l.fn.out.items ++ flat_map write (take l.written-index l.writes)) × AllByRecursion IsWrite (take l.written-index l.writes)
