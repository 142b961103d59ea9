use Rattle.std.specs.Vec.Iter.{into_iter_items}
use Rattle.ic_joins.proofs.Placed.{PlacedTo}
use Rattle.ic_joins.proofs.placing.place_all.Given as goal

abbrev pub invariant-loop-i : goal.invariant-loop-i
invariant-loop-i g l = PlacedTo l.program l.fn.inside l.i l.all.items (into_iter_items l.rest)
