use Rattle.std.proofs.Common.{◌≡◌, drop, map}
use Rattle.def_two.specs.World.{lowest_from}
use Rattle.ic_seat.specs.Seats.{site_of}
use Rattle.ic_two_world.proofs.settling.lowest_down.Given as goal

abbrev pub invariant-loop-c : goal.invariant-loop-c
invariant-loop-c g l = lowest_from 0 (map site_of l.seats) ≡ lowest_from l.c (map site_of (drop l.c l.seats))
