use Rattle.std.proofs.Common.{◌∙◌, ap, sym}
use Rattle.def_step.specs.World as world
use Rattle.ic_network.specs.Networks.{in_world}
use Rattle.ic_network.proofs.Sorting.{found-pair}
use Rattle.ic_network.proofs.network.Network.oldest_of.Goals as goal

pub returns-then-are_components : goal.returns-then-are_components
returns-then-are_components c =
    c.oldest_on.ensures
    ∙ found-pair c.self.inside.packets.items c.self.inside.lanes.lanes c.self.inside.lanes.waits c.self.inside.waiting c.args.from c.args.to c.lane_of.result (sym c.are_components.ensures ∙ c.if-are_components.true) c.lane_of.ensures.lane c.self.invariant
    ∙ ap (λ v. world.oldest_of (in_world v.network) c.args.from c.args.to) c.self.view_is
