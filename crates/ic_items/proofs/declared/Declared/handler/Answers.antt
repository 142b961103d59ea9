use Rattle.ic_items.proofs.Latest.{looked_up}
use Rattle.ic_items.proofs.declared.Declared.handler.Goals as goal

pub returns-in-Some-clause-few : goal.returns-in-Some-clause-few
returns-in-Some-clause-few c = looked_up c.args.name.now c.self.inside.handlers c.in-Some.params.now c.self.invariant.params c.in-Some.ensures.value
