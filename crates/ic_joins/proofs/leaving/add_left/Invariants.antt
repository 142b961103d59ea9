use Rattle.std.proofs.Common.{◌≡◌, ◌++◌, drop, length}
use Rattle.ic_turn.specs.Progresses.{events_of, answers_of}
use Rattle.ic_joins.proofs.leaving.add_left.Given as goal

abbrev pub invariant-loop-i : goal.invariant-loop-i
invariant-loop-i l = l.events ++ drop l.i (events_of l.fn.progress) ≡ l.fn.events ++ drop (length (answers_of l.fn.progress)) (events_of l.fn.progress)
