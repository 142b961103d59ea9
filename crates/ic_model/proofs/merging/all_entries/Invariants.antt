use Rattle.std.proofs.Common.{◌≡◌, ◌++◌, drop}
use Rattle.def_plain.specs.History.{entries_from}
use Rattle.ic_model.proofs.merging.all_entries.Given as goal

abbrev pub invariant-loop-i : goal.invariant-loop-i
invariant-loop-i l = l.entries ++ entries_from l.i (drop l.i l.program.components) (drop l.i l.logs.items) ≡ entries_from 0 l.program.components l.logs.items
