use Rattle.ic_world.specs.Making.{AreAsked}
use Rattle.ic_world.proofs.asking.ask_all.Given as goal

abbrev pub invariant-loop-i : goal.invariant-loop-i
invariant-loop-i g l = AreAsked g.D.Disk l.program l.fn.disks l.i l.next l.disks
