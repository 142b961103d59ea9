use Rattle.std.specs.Prelude.{◌-◌, ◌^◌}
use Rattle.ic_settle.specs.Policies.{intervals_of}
use Rattle.ic_run.specs.Agendas.{agenda_of}
use Rattle.ic_clients.proofs.Seeing.{IsSeen}
use Rattle.ic_clients.proofs.pursuing.pursue_seen.Given as goal

abbrev pub invariant-loop-trace : goal.invariant-loop-trace
invariant-loop-trace g l = IsSeen g.K.Sink l.program (intervals_of l.policy) l.level l.fn.tally (agenda_of l.agenda) l.fn.front.taken l.fn.world l.world l.fn.out l.out l.rest l.told l.front

abbrev pub decreases-loop-trace : goal.decreases-loop-trace
decreases-loop-trace g l = 2 ^ 32 - l.told.events
