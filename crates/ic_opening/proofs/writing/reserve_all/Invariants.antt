use Rattle.ic_opening.proofs.Loops.{DoneTo}
use Rattle.ic_opening.proofs.Writes.{roomy}
use Rattle.ic_opening.proofs.writing.reserve_all.Given as goal

abbrev pub invariant-loop-i : goal.invariant-loop-i
invariant-loop-i g l = DoneTo (roomy g.D.Disk l.logs) l.i l.fn.disks l.disks
