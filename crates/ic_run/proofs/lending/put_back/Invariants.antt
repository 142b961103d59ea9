use Rattle.std.proofs.Common.{◌+◌, ◌≤◌, length}
use Rattle.std.specs.Vec.{vec_len, vec_capacity}
use Rattle.std.specs.Vec.Iter.{into_iter_items}
use Rattle.ic_run.proofs.Steps.{Gives}
use Rattle.ic_run.proofs.lending.put_back.Given as goal

abbrev pub invariant-loop-i : goal.invariant-loop-i
invariant-loop-i g l =
    Gives l.fn.program.components l.fn.disks.items l.fn.taken.items l.i (into_iter_items l.taken) l.disks.items × (vec_len l.disks + length (into_iter_items l.taken) ≤ vec_capacity l.disks)
