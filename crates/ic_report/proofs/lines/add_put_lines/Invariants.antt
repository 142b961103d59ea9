use Rattle.std.proofs.Common.{◌≡◌, ◌+◌, ◌++◌, drop}
use Rattle.def_report.specs.Lines.{put_lines}
use Rattle.ic_report.proofs.lines.add_put_lines.Given as goal

abbrev pub invariant-loop-i : goal.invariant-loop-i
invariant-loop-i l =
    l.out.items ++ put_lines l.program (l.first + l.i) (drop l.i l.packets) ≡ l.fn.out.items ++ put_lines l.program l.first l.packets
