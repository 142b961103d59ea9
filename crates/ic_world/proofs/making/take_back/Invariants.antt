use Rattle.std.proofs.Common.{◌≡◌, ◌≤◌, ◌++◌}
use Rattle.std.specs.Prelude.{reverse}
use Rattle.std.specs.Vec.{vec_len, vec_capacity}
use Rattle.ic_world.specs.Opening.{disks_under}
use Rattle.ic_world.proofs.making.take_back.Given as goal

abbrev pub invariant-loop-x : goal.invariant-loop-x
invariant-loop-x g l = (l.back.items ++ disks_under (reverse l.made.items) ≡ l.fn.back.items ++ disks_under l.fn.made.items) × (vec_capacity l.fn.back ≤ vec_capacity l.back)

abbrev pub decreases-loop-x : goal.decreases-loop-x
decreases-loop-x g l = vec_len l.made
