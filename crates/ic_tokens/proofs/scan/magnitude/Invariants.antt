use Rattle.std.proofs.Common.{◌≡◌, ◌≤◌, drop}
use Rattle.def_syntax.specs.Text.{at_most, digits_behind}
use Rattle.ic_tokens.proofs.scan.magnitude.Given as goal

abbrev pub invariant-loop-d : goal.invariant-loop-d
invariant-loop-d l = (at_most l.limit (digits_behind 0 l.digits) ≡ at_most l.limit (digits_behind l.value (drop l.d-index l.digits))) × (l.value ≤ l.limit)
