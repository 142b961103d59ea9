use Rattle.std.proofs.Common.{◌≡◌, drop}
use Rattle.def_syntax.specs.Scope.{has_twice}
use Rattle.ic_items.specs.Tables.{slices_seen}
use Rattle.ic_items.proofs.Twice.{told}
use Rattle.ic_items.proofs.name_set.has_twice.Given as goal

abbrev pub invariant-loop-name : goal.invariant-loop-name
invariant-loop-name l = told (slices_seen l.before.keys) (drop l.name-index l.names) ≡ has_twice l.names
