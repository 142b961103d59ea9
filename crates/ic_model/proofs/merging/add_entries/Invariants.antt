use Rattle.std.proofs.Common.{◌≡◌, ◌++◌, take}
use Rattle.def_plain.specs.History.{log_entries}
use Rattle.ic_model.proofs.merging.add_entries.Given as goal

abbrev pub invariant-loop-record : goal.invariant-loop-record
invariant-loop-record l = l.entries ≡ l.fn.entries ++ log_entries l.kind l.«com» (take l.record-index l.log)
