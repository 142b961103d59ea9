use Rattle.std.proofs.Common.{◌≡◌, ◌++◌, drop, length, map}
use Rattle.def_report.specs.Summaries.{plain_lines}
use Rattle.def_run.specs.Audits.{values_in}
use Rattle.ic_report.proofs.audits.add_plain_lines.Given as goal

abbrev pub invariant-loop-component : goal.invariant-loop-component
invariant-loop-component l =
    l.out.items ++ plain_lines (drop (length l.yielded) l.components) (map values_in (drop (length l.yielded) l.world)) ≡ l.fn.out.items ++ plain_lines l.components (map values_in l.world)
