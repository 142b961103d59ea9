use Rattle.std.proofs.Common.{◌≡◌, ◌≤◌, take, length}
use Rattle.std.specs.VecDeque.{deque_capacity}
use Rattle.ic_index.proofs.sorted.Sorted.copy.Given as goal

abbrev pub invariant-loop-i : goal.invariant-loop-i
invariant-loop-i g l = (l.copy-inside.entries.items ≡ take l.i l.self-inside.entries.items) × (length l.self-inside.entries.items ≤ deque_capacity l.copy-inside.entries)
