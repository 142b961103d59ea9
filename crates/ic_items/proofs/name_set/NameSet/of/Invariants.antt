use Rattle.std.proofs.Common.{◌≡◌, ◌++◌}
use Rattle.ic_items.proofs.name_set.NameSet.of.Given as goal

abbrev pub invariant-loop-name : goal.invariant-loop-name
invariant-loop-name l = l.set ++ l.name-iterator.rest.items ≡ l.fn.names
