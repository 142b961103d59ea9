use Rattle.std.proofs.Common.{arith, sym, subst, refl}
use Rattle.std.proofs.lemmas.Result.{err_from_is_err_and}
use Rattle.ic_settle.specs.Policies.{intervals_of}
use Rattle.ic_run.specs.Advancing.{AdvancesBy}
use Rattle.ic_run.specs.Agendas.{agenda_of}
use Rattle.ic_run.specs.declared.running.Cut.{Cut}
use Rattle.ic_run.proofs.Runs.{advanced}
use Rattle.ic_run.proofs.Worlds.{way-rests}
use Rattle.ic_serve.specs.Gathering.{FailsToGather}
use Rattle.ic_serve.proofs.Gathered.{gathering-begins, gathering-further, gathering-ended, gathering-refused, gathering-cut, stopped}
use Rattle.ic_serve.proofs.gathering.gather.Goals as goal

pub loop-trace-init : goal.loop-trace-init
loop-trace-init g c =
    let law = g.met.D.Disk in
    let w = c.args.world.now in
    gathering-begins g.D.Disk law.only_now law.keeping_tells c.args.program.now (intervals_of c.args.policy.now) c.args.policy.now.report c.args.first w c.args.agenda.now c.args.service.now
    c.requires.world.made c.requires.world.going (w.placed c.requires.world.going) (omega (arith, w.plays)) c.requires.ready

pub returns-in_err-trace-clause-cut : goal.returns-in_err-trace-clause-cut
returns-in_err-trace-clause-cut g c =
    let p = err_from_is_err_and c.from_residual.result c.from_residual.ensures.1 in
    rw (p.1, p.2) (gathering-refused g.D.Disk c.loop-trace.invariant c.in_err-trace.ensures.refused)

pub returns-in_err-gather_event-clause-cut : goal.returns-in_err-gather_event-clause-cut
returns-in_err-gather_event-clause-cut g c =
    let p = err_from_is_err_and c.from_residual-in_err-gather_event.result c.from_residual-in_err-gather_event.ensures.1 in
    let law = g.met.D.Disk in
    let by : AdvancesBy c.args.program.now (intervals_of c.args.policy.now) c.loop-trace.rest c.advance.new.agenda c.loop-trace.world c.advance.new.world c.in-Some.trace = advanced _ c.in-Some.trace c.in-Some.is c.in_ok-trace.ensures.step in
    let P : Cut → Type 0 = λ cut. FailsToGather g.D.Disk c.args.program.now (intervals_of c.args.policy.now) c.args.policy.now.report c.args.first (agenda_of c.args.agenda.now) c.args.service.now c.args.world.now c.advance.new.world cut in
    rw (p.1, p.2)
    (subst P (sym c.in_err-gather_event.ensures.memory)
    (gathering-cut g.D.Disk c.args.program.now (intervals_of c.args.policy.now) c.args.policy.now.report c.args.first (agenda_of c.args.agenda.now) c.args.service.now c.args.world.now c.loop-trace.world c.advance.new.world c.loop-trace.rest c.advance.new.agenda c.loop-trace.form c.loop-trace.service c.loop-trace.invariant
    c.in-Some.trace by (way-rests g.D.Disk law.only_now law.keeping_tells c.args.program.now c.advance.new.world (c.advance.new.world.placed by.steps.going))))

pub loop-trace-preserved : goal.loop-trace-preserved
loop-trace-preserved g c =
    let law = g.met.D.Disk in
    let by : AdvancesBy c.args.program.now (intervals_of c.args.policy.now) c.loop-trace.rest c.advance.new.agenda c.loop-trace.world c.advance.new.world c.in-Some.trace = advanced _ c.in-Some.trace c.in-Some.is c.in_ok-trace.ensures.step in
    gathering-further c.args.program.now (intervals_of c.args.policy.now) c.args.policy.now.report c.args.first (agenda_of c.args.agenda.now) c.args.service.now c.args.world.now c.loop-trace.world c.advance.new.world c.loop-trace.rest c.advance.new.agenda c.loop-trace.form c.loop-trace.service c.gather_event.new.service c.loop-trace.invariant
    c.in-Some.trace by (way-rests g.D.Disk law.only_now law.keeping_tells c.args.program.now c.advance.new.world (c.advance.new.world.placed by.steps.going)) c.in_ok-gather_event.ensures.adds c.in_ok-gather_event.ensures.more.0

pub loop-trace-smaller : goal.loop-trace-smaller
loop-trace-smaller g c = omega (arith, c.in_ok-gather_event.ensures.more.0, c.in_ok-gather_event.ensures.more.1)

pub returns-clause-done : goal.returns-clause-done
returns-clause-done g c =
    let n = stopped c.args.program.now (intervals_of c.args.policy.now) c.loop-trace.rest c.advance.new.agenda _ c.in_default.is c.in_ok-trace.ensures.step in
    gathering-ended _ _ c.loop-trace.invariant n.0 n.1 refl

pub advance-requires-clause-world : goal.advance-requires-clause-world
advance-requires-clause-world g c = record { few = c.requires.world.few; made = c.loop-trace.invariant.run.goes.made; going = c.loop-trace.invariant.run.goes.going }
