use Rattle.std.proofs.Common.{◌≡◌, ◌++◌, take, drop, map}
use Rattle.std.specs.VecDeque.{deque_len, deque_capacity}
use Rattle.ic_out.specs.Views.{put_row}
use Rattle.ic_out.proofs.outbox.put_rows.Given as goal

abbrev pub invariant-loop-i : goal.invariant-loop-i
invariant-loop-i l = record {
  put : l.rows.items ≡ map put_row (take l.i l.fn.rows.items) ++ drop l.i l.fn.rows.items;
  len : deque_len l.rows ≡ deque_len l.fn.rows;
  capacity : deque_capacity l.rows ≡ deque_capacity l.fn.rows;
}
