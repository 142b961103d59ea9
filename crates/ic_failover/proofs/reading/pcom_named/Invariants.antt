use Rattle.std.proofs.Common.{◌≡◌, drop}
use Rattle.def_syntax.specs.Schedule.{named_from, is_pcom}
use Rattle.ic_failover.proofs.reading.pcom_named.Given as goal

abbrev pub invariant-loop-i : goal.invariant-loop-i
invariant-loop-i l = named_from 0 is_pcom l.name l.program.components ≡ named_from l.i is_pcom l.name (drop l.i l.program.components)
