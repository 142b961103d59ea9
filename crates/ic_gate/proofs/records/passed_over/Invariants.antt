use Rattle.std.proofs.Common.{◌≡◌, ◌+◌, ◌++◌, List, length, take}
use Rattle.ic_base.specs.declared.record.Record.{Record}
use Rattle.def_step.specs.Replay.{behind_checkpoint}
use Rattle.ic_gate.proofs.records.passed_over.Given as goal

abbrev pub invariant-loop-i : goal.invariant-loop-i
invariant-loop-i l = (before : List Record) → length before ≡ l.before → l.fn.passed + length (behind_checkpoint before) ≡ length before → l.last + length (behind_checkpoint (before ++ take l.i l.adds)) ≡ length before + l.i
