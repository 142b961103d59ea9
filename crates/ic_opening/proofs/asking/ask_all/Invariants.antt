use Rattle.ic_opening.proofs.Loops.{DoneTo}
use Rattle.ic_opening.proofs.Ones.{asked}
use Rattle.ic_opening.proofs.asking.ask_all.Given as goal

abbrev pub invariant-loop-i : goal.invariant-loop-i
invariant-loop-i g l = DoneTo (asked g.D.Disk) l.i l.fn.disks l.disks
