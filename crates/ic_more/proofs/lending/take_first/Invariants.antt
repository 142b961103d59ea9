use Rattle.std.proofs.Common.{◌≡◌, ◌++◌, length}
use Rattle.std.specs.Vec.{vec_capacity}
use Rattle.ic_more.proofs.lending.take_first.Given as goal

abbrev pub invariant-loop : goal.invariant-loop
invariant-loop g l = record {
  all : l.taken.items ++ l.disks.items ≡ l.fn.disks.items;
  long : length l.taken.items ≡ l.counter;
  room : vec_capacity l.taken ≡ l.fn.count;
  same : vec_capacity l.disks ≡ vec_capacity l.fn.disks;
}
