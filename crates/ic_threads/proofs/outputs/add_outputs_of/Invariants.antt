use Rattle.std.proofs.Common.{◌≡◌, ◌++◌, [], List}
use Rattle.def_live_run.specs.Reports.{Marked, marked}
use Rattle.ic_threads.specs.Outputs.{Tells}
use Rattle.ic_threads.proofs.Marks.{own}
use Rattle.ic_threads.proofs.outputs.add_outputs_of.Given as goal

abbrev pub invariant-loop-showing : goal.invariant-loop-showing
invariant-loop-showing l =
    (l.seen.showings ≡ own l.program l.level l.c l.showings l.showing-index)
    × ((xs : List Marked) → Tells l.program l.level xs l.fn.outputs → Tells l.program l.level (xs ++ marked [] (own l.program l.level l.c l.showings l.showing-index)) l.outputs)
