use Rattle.std.proofs.Common.{rules}
use Rattle.ic_live.proofs.Makings.{grid_wider}
use Rattle.ic_live.proofs.making.no_ends.Goals as goal

pub loop-made-preserved : goal.loop-made-preserved
loop-made-preserved g c = grid_wider c.loop-made.made c.loop-made.ins c.push.new.self c.new.result c.loop-made.invariant c.new.ensures (search rules)
