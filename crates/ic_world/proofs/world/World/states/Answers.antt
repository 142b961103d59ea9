use Rattle.std.proofs.Common.{◌∙◌, ap, map}
use Rattle.def_run.specs.Reports.{stand_of}
use Rattle.ic_node.specs.Views.{node_of}
use Rattle.ic_world.proofs.Lists.{map-map, all-taken, one-mapped}
use Rattle.ic_world.proofs.world.World.states.Goals as goal

pub returns : goal.returns
returns g c =
    c.loop-x.invariant
    ∙ ap (map (λ x. stand_of (node_of x))) (all-taken c.deref-x-items.result.now c.loop-x.x-index c.loop-x.auto.x-index-end c.loop-x-test.false)
    ∙ ap (map (λ x. stand_of (node_of x))) c.deref-x-items.ensures.value
    ∙ map-map stand_of (λ x. node_of x) c.args.self.now.components.items

pub loop-x-preserved : goal.loop-x-preserved
loop-x-preserved g c = one-mapped (λ x. stand_of (node_of x)) c.deref-x-items.result.now c.loop-x.x-index c.x-item.result c.loop-x.states c.push.new.self c.in_ok-stand.field-0 c.loop-x-test.true c.x-item.is c.loop-x.invariant (c.in_ok-stand.ensures {u = tt}) (c.in_ok-push.ensures {u = tt}).ok
