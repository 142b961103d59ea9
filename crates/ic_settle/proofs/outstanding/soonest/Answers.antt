use Rattle.std.proofs.Common.{◌∙◌, arith, None}
use Rattle.std.proofs.lemmas.List.{length-map}
use Rattle.ic_node.specs.Views.{node_of}
use Rattle.ic_settle.specs.Outstanding.{waits_of}
use Rattle.ic_world.specs.Views.{components_of, world_of}
use Rattle.ic_settle.proofs.Firsts.{soonest-step}
use Rattle.ic_settle.proofs.outstanding.soonest.Goals as goal

pub loop-i-preserved-in-Some : goal.loop-i-preserved-in-Some
loop-i-preserved-in-Some g c =
    let w = c.args.world.now in
    let many = length-map (components_of w) (λ x. node_of x) in
    let inv = c.loop-i.invariant in
    (c.sooner-least.ensures ∙ soonest-step (world_of w).nodes c.loop-i.i (waits_of c.loop-i.least) _ (omega (arith, c.loop-i-test.true)) (omega (arith, inv.1, many)) inv.0 c.in-Some.ensures, omega (arith, inv.1))

pub loop-i-preserved : goal.loop-i-preserved
loop-i-preserved g c =
    let w = c.args.world.now in
    let many = length-map (components_of w) (λ x. node_of x) in
    let inv = c.loop-i.invariant in
    (soonest-step (world_of w).nodes c.loop-i.i (waits_of c.loop-i.least) None (omega (arith, c.loop-i-test.true)) (omega (arith, inv.1, many)) inv.0 c.in_default.ensures, omega (arith, inv.1))
