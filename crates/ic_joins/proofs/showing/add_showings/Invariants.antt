use Rattle.std.proofs.Common.{◌≡◌, ◌++◌, map, take}
use Rattle.ic_base.specs.declared.messages.Output.{Output}
use Rattle.ic_joins.proofs.showing.add_showings.Given as goal

abbrev pub invariant-loop-output : goal.invariant-loop-output
invariant-loop-output l = l.showings ≡ l.fn.showings ++ map (λ (o : Output). (l.c, o)) (take l.output-index l.outputs)
