use Rattle.std.proofs.Common.{◌≡◌, drop}
use Rattle.std.specs.List.{list_any}
use Rattle.def_syntax.specs.Scope.{is_reserved}
use Rattle.ic_items.proofs.checks.any_reserved.Given as goal

abbrev pub invariant-loop-n : goal.invariant-loop-n
invariant-loop-n l = list_any is_reserved (drop l.n-index l.names) ≡ list_any is_reserved l.names
