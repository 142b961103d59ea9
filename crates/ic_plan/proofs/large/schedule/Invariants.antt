use Rattle.std.specs.Prelude.{◌≡◌, ◌+◌, ◌-◌, ◌++◌}
use Rattle.def_syntax.specs.Large.{text_of, inputs_from}
use Rattle.ic_plan.proofs.large.schedule.Given as goal

abbrev pub invariant-loop-i : goal.invariant-loop-i
invariant-loop-i l = l.text.items ++ text_of (inputs_from (200 - l.i) (l.i + 1) l.x) ≡ text_of (inputs_from 200 1 l.fn.number)
