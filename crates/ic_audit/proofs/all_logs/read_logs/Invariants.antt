use Rattle.ic_audit.proofs.Courses.{Course}
use Rattle.ic_audit.proofs.all_logs.read_logs.Given as goal

abbrev pub invariant-loop-i : goal.invariant-loop-i
invariant-loop-i g l = Course g.D.Disk l.given l.program.components l.fn.disks.items l.i l.logs.items l.disks.items
