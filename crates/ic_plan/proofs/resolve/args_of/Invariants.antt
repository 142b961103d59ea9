use Rattle.std.proofs.Common.{◌≡◌, ◌+◌, ◌++◌, length, take}
use Rattle.ic_plan.specs.RawEvent.{values_seen}
use Rattle.ic_plan.proofs.resolve.args_of.Given as goal

abbrev pub invariant-loop-i : goal.invariant-loop-i
invariant-loop-i l = (length l.values ≡ 8) × (take l.i l.values ≡ values_seen (take l.i l.numbers))

abbrev pub invariant-loop-j : goal.invariant-loop-j
invariant-loop-j l = (length l.values ≡ 8) × (take (length l.numbers + l.j) l.values ≡ values_seen l.numbers ++ values_seen (take l.j l.tokens))
