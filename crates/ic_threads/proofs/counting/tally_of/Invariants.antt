use Rattle.std.proofs.Common.{◌≡◌, [], take}
use Rattle.ic_run.specs.Tallies.{Counts}
use Rattle.ic_run.specs.declared.tally.Tally.{Tally}
use Rattle.ic_threads.specs.Counting.{counted, with_all}
use Rattle.ic_threads.proofs.counting.tally_of.Given as goal

abbrev pub invariant-loop-progress : goal.invariant-loop-progress
invariant-loop-progress l = (none : Tally) × Counts [] none × (none.events ≡ 0) × (l.tally ≡ with_all none (counted (take l.progress-index l.progresses)))
