use Rattle.std.proofs.Common.{◌≡◌, ◌++◌, drop}
use Rattle.ic_joins.specs.Showing.{showings_of}
use Rattle.ic_joins.proofs.showing.showings_of.Given as goal

abbrev pub invariant-loop-at : goal.invariant-loop-at
invariant-loop-at g l = l.showings ++ showings_of (drop l.at l.components) (drop l.at l.progresses) ≡ showings_of l.components l.progresses
