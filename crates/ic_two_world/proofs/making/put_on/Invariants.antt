use Rattle.std.proofs.Common.{◌≡◌, ◌+◌, length}
use Rattle.std.specs.Vec.{vec_len, vec_capacity}
use Rattle.ic_two_world.proofs.Beginning.{ArePut}
use Rattle.ic_two_world.proofs.making.put_on.Given as goal

abbrev pub invariant-loop-disk : goal.invariant-loop-disk
invariant-loop-disk g l = record {
  put : ArePut g.D.Disk l.fn.disks.items l.disks.items l.seats.items;
  count : length l.seats.items + length l.disks.items ≡ length l.fn.disks.items;
  capacity : vec_capacity l.disks ≡ vec_capacity l.fn.disks;
  room : vec_capacity l.seats ≡ vec_capacity l.fn.seats;
}

abbrev pub decreases-loop-disk : goal.decreases-loop-disk
decreases-loop-disk g l = vec_len l.disks
