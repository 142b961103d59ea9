use Rattle.std.proofs.Common.{◌≡◌, ◌∙◌, sym, ap, subst, refl, arith, length, map}
use Rattle.ic_network.specs.Networks.{empty_network}
use Rattle.ic_node.specs.Views.{node_of}
use Rattle.ic_world.specs.Allowing.{IsMadeFor}
use Rattle.ic_world.specs.Assembling.{assembled}
use Rattle.ic_world.specs.Working.{with_network}
use Rattle.ic_world.proofs.world.World.assemble.Goals as goal

pub invariant_of-result : goal.invariant_of-result
invariant_of-result g c = record {
  few = omega (arith, c.requires.count, c.requires.few);
  receipts = omega arith;
  plays = omega arith;
  placed = λ going. c.requires.placed;
  logs = λ going. c.requires.logs;
  counted = λ going. omega (arith, ap (λ n. length n.packets) (c.in-Ok.ensures {u = tt}));
}

pub returns-clause-step : goal.returns-clause-step
returns-clause-step g c =
    let nodes = map (λ x. node_of x) c.args.components.items in
    let empty = c.in-Ok.ensures {u = tt} in
    let shown = c.in-Ok-of.ensures {u = tt} in
    let world = ap (with_network nodes _) empty ∙ ap (λ s. with_network nodes s empty_network) shown in
    record {
      world = world;
      same = refl;
      is_own = refl;
      received = refl;
      played = refl;
      made = subst (IsMadeFor c.args.program.now) (sym world) c.requires.made;
      going = refl;
    }
