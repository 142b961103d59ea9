use Rattle.std.proofs.Common.{◌≡◌, drop}
use Rattle.def_syntax.specs.Schedule.{handler_from}
use Rattle.ic_plan.proofs.names.handler_of.Given as goal

abbrev pub invariant-loop-i : goal.invariant-loop-i
invariant-loop-i l = handler_from 0 l.name l.component.handlers ≡ handler_from l.i l.name (drop l.i l.component.handlers)
