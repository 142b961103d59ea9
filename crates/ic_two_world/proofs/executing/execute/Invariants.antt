use Rattle.std.proofs.Common.{drop, []}
use Rattle.ic_two_world.specs.Views.{world_of}
use Rattle.ic_two_world.proofs.Executed.{IsUnderWay}
use Rattle.ic_two_world.proofs.Settled.{left_as_one}
use Rattle.ic_two_world.proofs.executing.execute.Given as goal

abbrev pub invariant-loop-event : goal.invariant-loop-event
invariant-loop-event g l = IsUnderWay g.D.Disk l.events l.fn.world (drop l.event-index l.events) l.world

abbrev pub invariant-loop-next : goal.invariant-loop-next
invariant-loop-next g l = IsUnderWay g.D.Disk l.events l.fn.world [] l.world

abbrev pub decreases-loop-next : goal.decreases-loop-next
decreases-loop-next g l = left_as_one (world_of l.world)
