use Rattle.std.specs.Prelude.{◌-◌, ◌^◌}
use Rattle.ic_settle.specs.Policies.{intervals_of}
use Rattle.ic_threads.proofs.Under.{IsUnderWay}
use Rattle.ic_threads.proofs.serial.do_left.Given as goal

abbrev pub invariant-loop-trace : goal.invariant-loop-trace
invariant-loop-trace g l = IsUnderWay l.program (intervals_of l.policy) l.fn.tally l.left l.fn.world l.world l.fn.shown l.shown l.agenda l.told

abbrev pub decreases-loop-trace : goal.decreases-loop-trace
decreases-loop-trace g l = 2 ^ 32 - l.told.events
