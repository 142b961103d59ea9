use Rattle.ic_threads.specs.Outputs.{Tells}
use Rattle.ic_threads.proofs.Marks.{first_of}
use Rattle.ic_threads.proofs.outputs.outputs_of.Given as goal

abbrev pub invariant-loop-i : goal.invariant-loop-i
invariant-loop-i l = Tells l.program l.level (first_of l.program l.level l.showings l.i) l.outputs
