use Rattle.std.proofs.Common.{◌≡◌, ◌++◌, take, drop, map}
use Rattle.std.specs.VecDeque.{deque_len, deque_capacity}
use Rattle.ic_in.specs.Views.{covered_row}
use Rattle.ic_in.proofs.inbox.cover_rows.Given as goal

abbrev pub invariant-loop-i : goal.invariant-loop-i
invariant-loop-i l = record {
  covered : l.rows.items ≡ map (covered_row l.at) (take l.i l.fn.rows.items) ++ drop l.i l.fn.rows.items;
  len : deque_len l.rows ≡ deque_len l.fn.rows;
  capacity : deque_capacity l.rows ≡ deque_capacity l.fn.rows;
}
