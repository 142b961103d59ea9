use Rattle.std.proofs.Common.{◌≡◌, take}
use Rattle.std.specs.Prelude.{sum_by}
use Rattle.ic_turn.specs.Progresses.{played_of}
use Rattle.ic_threads.proofs.counting.played_in.Given as goal

abbrev pub invariant-loop-progress : goal.invariant-loop-progress
invariant-loop-progress l = l.played ≡ sum_by played_of (take l.progress-index l.progresses)
