use Rattle.std.proofs.Common.{◌≡◌, drop}
use Rattle.def_syntax.specs.Schedule.{named_from}
use Rattle.ic_plan.specs.WantedKinds.{kind_test}
use Rattle.ic_plan.proofs.names.named.Given as goal

abbrev pub invariant-loop-i : goal.invariant-loop-i
invariant-loop-i l = named_from 0 (kind_test l.wanted) l.name l.program.components ≡ named_from l.i (kind_test l.wanted) l.name (drop l.i l.program.components)
