use Rattle.std.proofs.Common.{◌≡◌, ◌++◌, take}
use Rattle.ic_gate.specs.Encoding.{ends_of, decoded}
use Rattle.ic_gate.proofs.spelled.SpelledRecords.with.Given as goal

abbrev pub invariant-loop-end : goal.invariant-loop-end
invariant-loop-end l = l.ends ≡ ends_of (l.fn.self ++ take l.end-index (decoded l.more))
