use Rattle.std.proofs.Common.{◌∙◌, ap, sym}
use Rattle.std.specs.List.{list_any}
use Rattle.def_step.specs.World.{same_showing}
use Rattle.ic_network.proofs.shown.Shown.reserve.Goals as goal

pub invariant_of-self-2 : goal.invariant_of-self-2
invariant_of-self-2 c = λ d m. c.reserve-2.ensures.keys.2 (d.0, m) ∙ c.self.invariant d m ∙ ap (list_any (same_showing d m)) (sym c.reserve.ensures.items)
