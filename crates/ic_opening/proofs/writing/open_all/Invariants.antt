use Rattle.ic_opening.proofs.Loops.{DoneTo}
use Rattle.ic_opening.proofs.Writes.{wrote_log}
use Rattle.ic_opening.proofs.writing.open_all.Given as goal

abbrev pub invariant-loop-i : goal.invariant-loop-i
invariant-loop-i g l = DoneTo (wrote_log g.D.Disk l.logs) l.i l.fn.disks l.disks
