use Rattle.std.proofs.Common.{take}
use Rattle.def_client.specs.Rebuilding.{front_from}
use Rattle.ic_client.specs.Seeing.{TakenAlike}
use Rattle.ic_client.proofs.front.Front.of_logs.Given as goal

abbrev pub invariant-loop-i : goal.invariant-loop-i
invariant-loop-i l = TakenAlike l.front.taken (front_from l.fn.plain 0 (take l.i l.fn.logs))
