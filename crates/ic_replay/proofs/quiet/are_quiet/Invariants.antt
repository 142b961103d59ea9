use Rattle.std.proofs.Common.{◌≡◌, drop}
use Rattle.ic_replay.specs.Quiet.{are_quiet}
use Rattle.ic_replay.proofs.quiet.are_quiet.Given as goal

abbrev pub invariant-loop-i : goal.invariant-loop-i
invariant-loop-i l = are_quiet (drop l.i l.records) ≡ are_quiet (drop l.from l.records)
