use Rattle.std.proofs.Common.{◌≡◌, drop, length}
use Rattle.def_report.specs.Summaries.{cell_words}
use Rattle.ic_report.specs.Said.{said}
use Rattle.ic_report.proofs.summaries.add_cells.Given as goal

abbrev pub invariant-loop-cell : goal.invariant-loop-cell
invariant-loop-cell l =
    said l.out.items (cell_words (drop (length l.yielded) l.cells) (drop (length l.yielded) l.values)) ≡ said l.fn.out.items (cell_words l.cells l.values)
