use Rattle.std.proofs.Common.{◌≡◌, ◌<◌, ℕ, length, Some}
use Rattle.std.specs.Prelude.{slice_get}
use Rattle.ic_turn.specs.Progresses.{turns_of}
use Rattle.ic_turn.specs.declared.progress.Progress.{Progress}
use Rattle.ic_live.specs.Turned.{turns_due}
use Rattle.ic_live.proofs.turned.have_turned.Given as goal

-- those before
abbrev pub invariant-loop-at : goal.invariant-loop-at
invariant-loop-at l = (k : ℕ) (p : Progress) → k < l.at → slice_get l.progresses k ≡ Some p → turns_of p ≡ turns_due (length l.progresses) k l.turns l.workers
