use Rattle.std.proofs.Common.{◌≡◌, ◌++◌, filter, is_some, length}
use Rattle.std.specs.Vec.Iter.{into_iter_items}
use Rattle.ic_node.specs.Views.{disk_of}
use Rattle.ic_world.specs.Views.{components_of}
use Rattle.ic_joins.proofs.berths.berths_of.Given as goal

abbrev pub invariant-loop-x : goal.invariant-loop-x
invariant-loop-x g l = l.berths ++ filter (λ x. is_some (disk_of x)) (into_iter_items l.components) ≡ filter (λ x. is_some (disk_of x)) (components_of l.fn.world)

abbrev pub decreases-loop-x : goal.decreases-loop-x
decreases-loop-x g l = length (into_iter_items l.components)
