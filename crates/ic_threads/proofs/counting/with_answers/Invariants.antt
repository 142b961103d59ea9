use Rattle.std.proofs.Common.{◌≡◌, take}
use Rattle.ic_threads.specs.Counting.{with_answers}
use Rattle.ic_threads.proofs.counting.with_answers.Given as goal

abbrev pub invariant-loop-answer : goal.invariant-loop-answer
invariant-loop-answer l = l.counted ≡ with_answers l.fn.tally (take l.answer-index l.answers)
