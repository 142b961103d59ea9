use Rattle.std.proofs.Common.{◌≡◌, length}
use Rattle.ic_moves.specs.Chiefs.{openings_of}
use Rattle.ic_two_world.specs.Opening.{disks_under}
use Rattle.ic_two_world.proofs.Beginning.{AreComing}
use Rattle.ic_two_world.proofs.making.begin_all.Given as goal

abbrev pub invariant-loop-place : goal.invariant-loop-place
invariant-loop-place g l = record {
  coming : AreComing g.D.Disk (openings_of l.books) l.fingerprint (disks_under l.fn.seats.items) l.place l.seats.items;
  count : length l.seats.items ≡ length l.fn.seats.items;
}
