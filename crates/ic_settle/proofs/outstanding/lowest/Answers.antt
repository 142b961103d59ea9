use Rattle.std.proofs.Common.{◌∙◌, sym, arith}
use Rattle.std.proofs.lemmas.List.{length-map}
use Rattle.ic_node.specs.Views.{node_of}
use Rattle.ic_settle.specs.Outstanding.{test_of}
use Rattle.ic_world.specs.Views.{components_of, world_of}
use Rattle.ic_settle.proofs.Firsts.{found-here, more-here}
use Rattle.ic_settle.proofs.outstanding.lowest.Goals as goal

pub returns-then-is_outstanding : goal.returns-then-is_outstanding
returns-then-is_outstanding g c =
    let w = world_of c.args.world.now in
    found-here (test_of w c.args.what) w.nodes c.loop-i.i c.loop-i.invariant (sym c.is_outstanding.ensures ∙ c.if-is_outstanding.true)

pub loop-i-preserved : goal.loop-i-preserved
loop-i-preserved g c =
    let w = world_of c.args.world.now in
    let many = length-map (components_of c.args.world.now) (λ x. node_of x) in
    more-here (test_of w c.args.what) w.nodes c.loop-i.i c.loop-i.invariant (omega (arith, c.loop-i-test.true, c.size-i-end.ensures, many)) (sym c.is_outstanding.ensures ∙ c.if-is_outstanding.false)
