use Rattle.std.proofs.Common.{length}
use Rattle.ic_live.specs.Grids.{IsSquare, Paired, SameLane, InOrder}
use Rattle.ic_live.proofs.closing.close_all.Given as goal

abbrev pub invariant-loop-row : goal.invariant-loop-row
invariant-loop-row g l = IsSquare l.outs l.ins × Paired SameLane l.outs l.ins × (Paired InOrder l.outs l.ins → Paired InOrder l.fn.outs l.fn.ins)

abbrev pub decreases-loop-row : goal.decreases-loop-row
decreases-loop-row g l = length l.outs
