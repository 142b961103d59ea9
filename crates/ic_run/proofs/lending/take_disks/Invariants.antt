use Rattle.std.proofs.Common.{◌≡◌, ◌≤◌, length}
use Rattle.std.specs.Vec.{vec_capacity}
use Rattle.ic_run.proofs.Steps.{Takes}
use Rattle.ic_run.proofs.lending.take_disks.Given as goal

abbrev pub invariant-loop-i : goal.invariant-loop-i
invariant-loop-i g l =
    Takes l.fn.program.components l.fn.disks.items l.i l.at l.taken.items l.disks.items × (length l.fn.program.components ≤ vec_capacity l.taken) × (vec_capacity l.disks ≡ vec_capacity l.fn.disks)
