use Rattle.std.proofs.Common.{◌≡◌, map, drop}
use Rattle.std.specs.Fmt.{signed_decimal}
use Rattle.ic_report.specs.Said.{said}
use Rattle.ic_report.proofs.writing.add_values_from.Given as goal

abbrev pub invariant-loop-i : goal.invariant-loop-i
invariant-loop-i l = said l.out.items (map signed_decimal (drop l.i l.values)) ≡ said l.fn.out.items (map signed_decimal (drop l.first l.values))
