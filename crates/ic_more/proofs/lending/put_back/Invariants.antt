use Rattle.std.proofs.Common.{◌≡◌, ◌++◌, ◌+◌, ◌≤◌, length}
use Rattle.std.specs.Vec.{vec_len, vec_capacity}
use Rattle.ic_more.proofs.lending.put_back.Given as goal

abbrev pub invariant-loop-disk : goal.invariant-loop-disk
invariant-loop-disk g l = record {
  all : l.taken.items ++ l.disks.items ≡ l.fn.taken.items ++ l.fn.disks.items;
  room : vec_len l.disks + length l.taken.items ≤ vec_capacity l.disks;
}

abbrev pub decreases-loop-disk : goal.decreases-loop-disk
decreases-loop-disk g l = vec_len l.taken
