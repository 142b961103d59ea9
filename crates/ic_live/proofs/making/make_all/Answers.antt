use Rattle.std.proofs.Common.{◌≡◌, List, [], ◌∷◌, ◌++◌, length, ap, rules, arith, length-append}
use Rattle.ic_lane.specs.Lanes.{Out}
use Rattle.ic_live.proofs.Makings.{grid_longer}
use Rattle.ic_live.proofs.making.make_all.Goals as goal

pub loop-made-preserved : goal.loop-made-preserved
loop-made-preserved g c =
    let is : c.push.new.self ≡ c.loop-made.outs ++ c.in_ok-row.row ∷ [] = search rules in (
      grid_longer c.args.count c.loop-made.outs c.push.new.self c.in_ok-row.row c.loop-made.ins c.make_row.new.ins c.loop-made.invariant.0 c.in_ok-row.ensures is,
      omega (arith, ap (λ (l : List (List Out)). length l) is, length-append c.loop-made.outs (c.in_ok-row.row ∷ []), c.loop-made.invariant.1),
    )
