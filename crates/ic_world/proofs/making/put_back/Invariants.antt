use Rattle.std.proofs.Common.{◌≡◌, ◌≤◌, ◌++◌}
use Rattle.std.specs.Prelude.{reverse}
use Rattle.std.specs.Vec.{vec_len, vec_capacity}
use Rattle.ic_world.proofs.making.put_back.Given as goal

abbrev pub invariant-loop-disk : goal.invariant-loop-disk
invariant-loop-disk g l = (l.back.items ++ reverse l.rest.items ≡ l.fn.back.items ++ reverse l.fn.rest.items) × (vec_capacity l.fn.back ≤ vec_capacity l.back)

abbrev pub decreases-loop-disk : goal.decreases-loop-disk
decreases-loop-disk g l = vec_len l.rest
