use Rattle.std.proofs.Common.{◌≡◌, ◌++◌, length}
use Rattle.std.specs.Vec.Iter.{into_iter_items}
use Rattle.ic_world.specs.Opening.{disks_under}
use Rattle.ic_threads.proofs.refusing.disks_of.Given as goal

abbrev pub invariant-loop-x : goal.invariant-loop-x
invariant-loop-x g l = l.disks.items ++ disks_under (into_iter_items l.rest) ≡ disks_under l.fn.components

abbrev pub decreases-loop-x : goal.decreases-loop-x
decreases-loop-x g l = length (into_iter_items l.rest)
