use Rattle.ic_settle.specs.Policies.{intervals_of}
use Rattle.ic_world.specs.Views.{world_of}
use Rattle.ic_run.proofs.Nexts.{settles-next}
use Rattle.ic_run.proofs.agenda.next.Goals as goal

pub returns-in_ok-event-in-None-2 : goal.returns-in_ok-event-in-None-2
returns-in_ok-event-in-None-2 g c =
    let a = c.args.agenda.now in
    settles-next (world_of c.args.world.now) (intervals_of c.args.policy.now) a.left.now a.halts a.last c.in_ok-event-in-None-2.event c.in_default.ensures c.in-None-2.ensures.cases c.if-agenda.false c.in_ok-event-in-None-2.ensures
