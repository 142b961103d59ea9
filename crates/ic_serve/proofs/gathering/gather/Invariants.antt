use Rattle.std.specs.Prelude.{◌-◌, ◌^◌}
use Rattle.ic_settle.specs.Policies.{intervals_of}
use Rattle.ic_run.specs.Agendas.{agenda_of}
use Rattle.ic_serve.proofs.Gathered.{IsGathering}
use Rattle.ic_serve.proofs.gathering.gather.Given as goal

abbrev pub invariant-loop-trace : goal.invariant-loop-trace
invariant-loop-trace g l = IsGathering l.program (intervals_of l.policy) l.policy.report l.fn.first (agenda_of l.agenda) l.fn.service l.fn.world l.world l.rest l.form l.service

abbrev pub decreases-loop-trace : goal.decreases-loop-trace
decreases-loop-trace g l = 2 ^ 32 - l.service.tally.events
