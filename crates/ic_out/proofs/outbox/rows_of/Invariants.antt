use Rattle.std.proofs.Common.{◌≡◌, ◌≤◌, take, map, length}
use Rattle.std.specs.VecDeque.{deque_capacity}
use Rattle.ic_out.specs.Views.{row_in_image}
use Rattle.ic_out.proofs.outbox.rows_of.Given as goal

abbrev pub invariant-loop-msg : goal.invariant-loop-msg
invariant-loop-msg l = (l.rows.items ≡ map row_in_image (take l.msg-index l.held)) × (length l.held ≤ deque_capacity l.rows)
