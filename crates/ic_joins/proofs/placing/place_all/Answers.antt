use Rattle.std.proofs.Common.{◌∙◌, refl, rules, arith}
use Rattle.std.specs.Vec.Iter.{into_iter_items}
use Rattle.ic_joins.proofs.Placed.{placed-none, next-there, placed-next}
use Rattle.ic_joins.proofs.placing.place_all.Goals as goal

pub loop-i-init : goal.loop-i-init
loop-i-init g c = placed-none c.args.program.now c.args.inside c.new-all.result.items (into_iter_items c.into_iter-rest.result) c.new-all.ensures.items (c.into_iter-rest.ensures.rest ∙ c.into_vec.ensures)

pub next_in-x-requires : goal.next_in-x-requires
next_in-x-requires g c = next-there c.args.program.now c.args.inside c.loop-i.i (record { 0 = c.loop-i.i }) refl c.loop-i.all.items (into_iter_items c.loop-i.rest) c.loop-i.invariant (search (rules, arith)) c.requires.count

pub loop-i-preserved : goal.loop-i-preserved
loop-i-preserved g c =
    placed-next c.args.program.now c.args.inside c.loop-i.i (record { 0 = c.loop-i.i }) refl c.loop-i.all.items (into_iter_items c.loop-i.rest) c.loop-i.invariant (search (rules, arith))
    c.push.new.self.items (into_iter_items c.next_in-x.new.inside) c.next_in-x.result c.next_in-x.ensures (search rules)

pub returns : goal.returns
returns g c = record { count = c.loop-i.invariant.count ∙ search (rules, arith); each = c.loop-i.invariant.each }
