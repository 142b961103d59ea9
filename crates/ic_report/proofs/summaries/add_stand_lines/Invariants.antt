use Rattle.std.proofs.Common.{◌≡◌, ◌++◌, drop, length}
use Rattle.def_report.specs.Summaries.{stand_lines}
use Rattle.ic_report.proofs.summaries.add_stand_lines.Given as goal

abbrev pub invariant-loop-component : goal.invariant-loop-component
invariant-loop-component l =
    l.out.items ++ stand_lines (drop (length l.yielded) l.components) (drop (length l.yielded) l.stands) ≡ l.fn.out.items ++ stand_lines l.components l.stands
