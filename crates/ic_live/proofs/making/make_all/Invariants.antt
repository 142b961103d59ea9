use Rattle.std.proofs.Common.{◌≡◌, length}
use Rattle.ic_live.specs.Grids.{IsGrid}
use Rattle.ic_live.proofs.making.make_all.Given as goal

abbrev pub invariant-loop-made : goal.invariant-loop-made
invariant-loop-made g l = IsGrid l.count l.outs l.ins × (length l.outs ≡ l.made)
