use Rattle.std.proofs.Common.{◌≡◌, ◌≤◌, take, length}
use Rattle.ic_base.specs.declared.messages.ComId.{ComId}
use Rattle.def_plain.specs.History.{log_entries}
use Rattle.ic_node.proofs.counting.entries_in.Given as goal

abbrev pub invariant-loop-i : goal.invariant-loop-i
invariant-loop-i l = ((c : ComId) → l.n ≡ length (log_entries l.kind c (take l.i l.records))) × (l.n ≤ l.i)
