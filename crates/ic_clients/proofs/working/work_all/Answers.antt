use Rattle.std.proofs.Common.{arith, subst, List, map}
use Rattle.std.proofs.lemmas.List.{take_all}
use Rattle.std.proofs.lemmas.Result.{err_from_is_err_and}
use Rattle.ic_base.specs.declared.events.Event.{Event}
use Rattle.def_client.specs.Clients.{item_of}
use Rattle.ic_settle.specs.Policies.{intervals_of}
use Rattle.ic_clients.specs.Working.{WorkedOff, AllWorkedOff, FailsToWork}
use Rattle.ic_clients.proofs.Cutting.{fails-at}
use Rattle.ic_clients.proofs.Worked.{all-none, all-further, leads-nowhere}
use Rattle.ic_clients.proofs.working.work_all.Goals as goal

pub loop-event-init : goal.loop-event-init
loop-event-init g c =
    let law = g.met.D.Disk in
    let w = c.args.world.now in
    all-none g.K.Sink c.args.program.now (intervals_of c.args.policy.now) c.args.level c.args.front.now.taken w c.args.out.now c.none-told.result c.requires.front
    (leads-nowhere g.D.Disk law.only_now law.keeping_tells c.args.program.now w c.requires.world.made c.requires.world.going (w.placed c.requires.world.going) (omega (arith, w.plays))) c.none-told.ensures.counts c.none-told.ensures.first

pub work_off-requires-clause-world : goal.work_off-requires-clause-world
work_off-requires-clause-world g c = record { few = c.requires.world.few; going = c.loop-event.invariant.leads.going; made = c.loop-event.invariant.leads.made }

pub loop-event-preserved : goal.loop-event-preserved
loop-event-preserved g c =
    let P : Event → Type 0 = λ e. WorkedOff g.K.Sink c.args.program.now (intervals_of c.args.policy.now) c.args.level (item_of e) c.loop-event.told c.loop-event.front.taken c.work_off.new.front.taken c.loop-event.world c.work_off.new.world c.loop-event.out c.work_off.new.out c.in_ok-told.told in
    all-further g.K.Sink c.args.program.now (intervals_of c.args.policy.now) c.args.level c.args.events.now c.loop-event.event-index c.event-item.result c.loop-event.front.taken c.work_off.new.front.taken c.args.world.now c.loop-event.world c.work_off.new.world c.args.out.now c.loop-event.out c.work_off.new.out c.loop-event.told c.in_ok-told.told
    c.loop-event-test.true c.loop-event.invariant (subst P c.event-item.is c.in_ok-told.ensures.done)

pub returns-in_err-told-clause-cut : goal.returns-in_err-told-clause-cut
returns-in_err-told-clause-cut g c =
    let p = err_from_is_err_and c.from_residual.result c.from_residual.ensures.1 in
    let P : Event → Type 0 = λ e. FailsToWork g.D.Disk g.K.Sink c.args.program.now (intervals_of c.args.policy.now) c.args.level (item_of e) c.loop-event.told c.loop-event.front.taken c.loop-event.world c.work_off.new.world c.loop-event.out c.work_off.new.out c.in_err-told.field-0.0 in
    rw (p.1, p.2)
    (fails-at g.D.Disk g.K.Sink c.args.program.now (intervals_of c.args.policy.now) c.args.level c.args.world.now c.work_off.new.world c.args.out.now c.work_off.new.out c.args.events.now c.loop-event.event-index c.event-item.result c.loop-event.front.taken c.loop-event.world c.loop-event.out c.loop-event.told c.in_err-told.field-0.0
    c.loop-event-test.true c.loop-event.invariant (subst P c.event-item.is c.in_err-told.ensures.cut))

pub returns-clause-done : goal.returns-clause-done
returns-clause-done g c =
    let events = c.args.events.now in
    let P : List Event → Type 0 = λ es. AllWorkedOff g.K.Sink c.args.program.now (intervals_of c.args.policy.now) c.args.level (map item_of es) c.loop-event.front.taken c.args.world.now c.loop-event.world c.args.out.now c.loop-event.out c.loop-event.told in
    subst P (take_all c.loop-event.event-index events (omega (arith, c.loop-event-test.false))) c.loop-event.invariant
