use Rattle.ic_live.specs.Grids.{GrowsTo}
use Rattle.ic_live.proofs.making.make_row.Given as goal

abbrev pub invariant-loop-at : goal.invariant-loop-at
invariant-loop-at g l = GrowsTo l.at l.row l.fn.ins l.ins
