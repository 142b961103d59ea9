use Rattle.std.proofs.Common.{◌≡◌, drop}
use Rattle.std.specs.List.{list_any}
use Rattle.def_syntax.specs.Scope.{is_in, latest}
use Rattle.ic_items.proofs.scope.Scope.is_any_var.Given as goal

abbrev pub invariant-loop-n : goal.invariant-loop-n
invariant-loop-n l = list_any (λ p. is_in p (latest l.self).vars) (drop l.n-index l.names) ≡ list_any (λ p. is_in p (latest l.self).vars) l.names
