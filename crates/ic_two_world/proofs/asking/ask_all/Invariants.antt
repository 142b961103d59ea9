use Rattle.ic_two_world.proofs.Disks.{AreAsked}
use Rattle.ic_two_world.proofs.asking.ask_all.Given as goal

abbrev pub invariant-loop-c : goal.invariant-loop-c
invariant-loop-c g l = AreAsked g.D.Disk l.fn.disks l.c l.disks
