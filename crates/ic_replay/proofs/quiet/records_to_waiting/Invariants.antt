use Rattle.std.proofs.Common.{◌≡◌, ◌++◌, drop}
use Rattle.ic_replay.specs.Quiet.{up_to_waiting}
use Rattle.ic_replay.proofs.quiet.records_to_waiting.Given as goal

abbrev pub invariant-loop-i : goal.invariant-loop-i
invariant-loop-i l = l.run ++ up_to_waiting (drop l.i l.records) ≡ up_to_waiting (drop l.from l.records)
