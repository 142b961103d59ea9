use Rattle.std.proofs.Common.{◌≡◌, filter, take}
use Rattle.def_run.specs.SystemStates.{has_disk}
use Rattle.def_live.specs.Turns.{coms_from}
use Rattle.ic_live.proofs.coms.berthed.Given as goal

abbrev pub invariant-loop-i : goal.invariant-loop-i
invariant-loop-i l = l.coms.items ≡ filter (has_disk l.program) (take l.i (coms_from 0 l.program.components))
