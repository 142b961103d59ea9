use Rattle.std.proofs.Common.{[]}
use Rattle.ic_live.specs.Grids.{IsGrid}
use Rattle.ic_live.proofs.making.no_ends.Given as goal

abbrev pub invariant-loop-made : goal.invariant-loop-made
invariant-loop-made g l = IsGrid l.made [] l.ins
