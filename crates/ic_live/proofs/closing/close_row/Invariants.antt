use Rattle.std.proofs.Common.{List, length}
use Rattle.ic_lane.specs.Lanes.{In}
use Rattle.ic_live.specs.Grids.{FitsRow, Peels}
use Rattle.ic_live.proofs.closing.close_row.Given as goal

abbrev pub invariant-loop-o : goal.invariant-loop-o
invariant-loop-o g l = FitsRow l.row l.ins × ((news : List (List In)) → Peels l.row l.ins news → Peels l.fn.row l.fn.ins news)

abbrev pub decreases-loop-o : goal.decreases-loop-o
decreases-loop-o g l = length l.row
