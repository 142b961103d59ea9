use Rattle.std.proofs.Common.{◌≡◌, ◌++◌, ◌+◌, ◌≤◌, length}
use Rattle.std.specs.Prelude.{reverse}
use Rattle.std.specs.Vec.{vec_len, vec_capacity}
use Rattle.ic_two_world.specs.Opening.{disks_under}
use Rattle.ic_two_world.proofs.making.take_back.Given as goal

abbrev pub invariant-loop-seat : goal.invariant-loop-seat
invariant-loop-seat g l = record {
  taken : l.back.items ++ disks_under (reverse l.seats.items) ≡ l.fn.back.items ++ disks_under l.fn.seats.items;
  room : vec_len l.back + length l.seats.items ≤ vec_capacity l.back;
}

abbrev pub decreases-loop-seat : goal.decreases-loop-seat
decreases-loop-seat g l = vec_len l.seats
