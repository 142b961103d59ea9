use Rattle.std.proofs.Common.{◌≡◌}
use Rattle.def_log.specs.Frame.{first_difference}
use Rattle.ic_former.proofs.Differences.{difference_from}
use Rattle.ic_former.proofs.header.first_difference.Given as goal

abbrev pub invariant-loop-i : goal.invariant-loop-i
invariant-loop-i l = difference_from l.i l.one l.other ≡ first_difference l.one l.other
