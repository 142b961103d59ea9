use Rattle.std.proofs.Common.{◌≡◌, length}
use Rattle.ic_live.specs.Ends.{HaveOneContent}
use Rattle.ic_live.proofs.Pops.{GoesOn}
use Rattle.ic_live.proofs.lending.first_of.Given as goal

abbrev pub invariant-loop-at : goal.invariant-loop-at
invariant-loop-at g l = (length l.ins.items ≡ length l.peers) × GoesOn l.c l.peers l.fn.ins.items l.at l.ins.items × (g.M.Mark.honest → HaveOneContent l.fn.ins.items → HaveOneContent l.ins.items)
