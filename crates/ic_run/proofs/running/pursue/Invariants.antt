use Rattle.std.specs.Prelude.{◌-◌, ◌^◌}
use Rattle.ic_settle.specs.Policies.{intervals_of}
use Rattle.ic_run.specs.Agendas.{agenda_of}
use Rattle.ic_run.specs.Running.{pieces_of}
use Rattle.ic_run.proofs.Runs.{IsUnderWay}
use Rattle.ic_run.proofs.running.pursue.Given as goal

abbrev pub invariant-loop-trace : goal.invariant-loop-trace
invariant-loop-trace g l = IsUnderWay g.K.Sink l.program (intervals_of l.policy) (pieces_of l.program l.level) l.fn.tally (agenda_of l.agenda) l.fn.world l.world l.fn.out l.out l.rest l.told

abbrev pub decreases-loop-trace : goal.decreases-loop-trace
decreases-loop-trace g l = 2 ^ 32 - l.told.events
