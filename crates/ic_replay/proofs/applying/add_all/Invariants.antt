use Rattle.std.proofs.Common.{◌≡◌, ◌≤◌, ◌+◌, drop}
use Rattle.def_state.specs.Shelf.{add_all}
use Rattle.ic_replay.proofs.applying.add_all.Given as goal

abbrev pub invariant-loop-out : goal.invariant-loop-out
invariant-loop-out l = record {
  added : add_all l.at l.shelf.shelf (drop l.out-index l.outs) ≡ add_all l.at l.fn.shelf.shelf l.outs;
  room : l.fn.shelf.spare ≤ l.shelf.spare + l.out-index;
}
