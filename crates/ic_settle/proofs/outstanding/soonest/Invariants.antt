use Rattle.std.proofs.Common.{◌≡◌, ◌≤◌, drop, length}
use Rattle.def_step.specs.Settle.{soonest_from}
use Rattle.ic_settle.specs.Outstanding.{waits_of}
use Rattle.ic_world.specs.Views.{components_of, world_of}
use Rattle.ic_settle.proofs.outstanding.soonest.Given as goal

abbrev pub invariant-loop-i : goal.invariant-loop-i
invariant-loop-i g l = (waits_of l.least ≡ soonest_from l.i (drop l.i (world_of l.world).nodes)) × (l.i ≤ length (components_of l.world))

abbrev pub decreases-loop-i : goal.decreases-loop-i
decreases-loop-i g l = l.i
