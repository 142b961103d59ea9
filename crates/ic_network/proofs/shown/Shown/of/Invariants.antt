use Rattle.std.proofs.Common.{◌≡◌, ◌+◌, ◌≤◌, take, length}
use Rattle.ic_network.proofs.shown.Shown.of.Given as goal

abbrev pub invariant-loop-from : goal.invariant-loop-from
invariant-loop-from l = record {
  added : l.shown.showings ≡ take l.from-index l.from-items;
  room : length l.from-items ≤ l.shown.spare + l.from-index;
}
