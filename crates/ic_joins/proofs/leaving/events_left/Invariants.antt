use Rattle.std.proofs.Common.{◌≡◌, flat_map, take}
use Rattle.ic_turn.specs.Progresses.{left_of}
use Rattle.ic_joins.proofs.leaving.events_left.Given as goal

abbrev pub invariant-loop-progress : goal.invariant-loop-progress
invariant-loop-progress l = l.events ≡ flat_map left_of (take l.progress-index l.progresses)
