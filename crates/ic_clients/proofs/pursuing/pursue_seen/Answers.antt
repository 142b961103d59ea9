use Rattle.std.proofs.Common.{arith}
use Rattle.std.proofs.lemmas.Result.{err_from_is_err_and}
use Rattle.ic_settle.specs.Policies.{intervals_of}
use Rattle.ic_run.specs.Advancing.{AdvancesBy}
use Rattle.ic_run.specs.Agendas.{agenda_of}
use Rattle.ic_run.proofs.Runs.{run-refused, run-cut, advanced}
use Rattle.ic_run.proofs.Worlds.{way-rests}
use Rattle.ic_clients.specs.Moments.{item_pieces}
use Rattle.ic_clients.proofs.Seeing.{seen-begins, seen-further, seen-next, seen-ended, stopped}
use Rattle.ic_clients.proofs.pursuing.pursue_seen.Goals as goal

pub loop-trace-init : goal.loop-trace-init
loop-trace-init g c =
    let law = g.met.D.Disk in
    let w = c.args.world.now in
    seen-begins g.D.Disk law.only_now law.keeping_tells g.K.Sink c.args.program.now (intervals_of c.args.policy.now) c.args.level c.args.tally w c.args.out.now c.args.agenda.now c.args.front.now
    c.requires.world.made c.requires.world.going (w.placed c.requires.world.going) (omega (arith, w.plays)) c.requires.ready c.requires.may

pub saw-requires : goal.saw-requires
saw-requires g c =
    let by : AdvancesBy c.args.program.now (intervals_of c.args.policy.now) c.loop-trace.rest c.advance.new.agenda c.loop-trace.world c.advance.new.world c.in-Some.trace = advanced _ c.in-Some.trace c.in-Some.is c.in_ok-trace.ensures.step in
    record { may = seen-next g.K.Sink c.loop-trace.invariant by }

pub returns-in_err-trace-clause-cut : goal.returns-in_err-trace-clause-cut
returns-in_err-trace-clause-cut g c =
    let p = err_from_is_err_and c.from_residual.result c.from_residual.ensures.1 in
    rw (p.1, p.2) (run-refused g.D.Disk g.K.Sink {tell = item_pieces c.args.program.now c.args.level} c.loop-trace.invariant.run c.in_err-trace.ensures.refused)

pub returns-in_err-told-clause-cut : goal.returns-in_err-told-clause-cut
returns-in_err-told-clause-cut g c =
    let p = err_from_is_err_and c.from_residual-in_err-told.result c.from_residual-in_err-told.ensures.1 in
    let law = g.met.D.Disk in
    let by : AdvancesBy c.args.program.now (intervals_of c.args.policy.now) c.loop-trace.rest c.advance.new.agenda c.loop-trace.world c.advance.new.world c.in-Some.trace = advanced _ c.in-Some.trace c.in-Some.is c.in_ok-trace.ensures.step in
    rw (p.1, p.2)
    (run-cut g.D.Disk g.K.Sink c.args.program.now (intervals_of c.args.policy.now) (item_pieces c.args.program.now c.args.level) c.args.tally (agenda_of c.args.agenda.now) c.args.world.now c.loop-trace.world c.advance.new.world c.args.out.now c.loop-trace.out c.tell.new.out c.loop-trace.rest c.advance.new.agenda c.loop-trace.told c.loop-trace.invariant.run
    c.in-Some.trace by c.in_err-told.field-0.0 (way-rests g.D.Disk law.only_now law.keeping_tells c.args.program.now c.advance.new.world (c.advance.new.world.placed by.steps.going)) c.in_err-told.ensures.cut)

pub loop-trace-preserved : goal.loop-trace-preserved
loop-trace-preserved g c =
    let law = g.met.D.Disk in
    let by : AdvancesBy c.args.program.now (intervals_of c.args.policy.now) c.loop-trace.rest c.advance.new.agenda c.loop-trace.world c.advance.new.world c.in-Some.trace = advanced _ c.in-Some.trace c.in-Some.is c.in_ok-trace.ensures.step in
    seen-further g.K.Sink c.args.program.now (intervals_of c.args.policy.now) c.args.level c.args.tally (agenda_of c.args.agenda.now) c.args.front.now.taken c.args.world.now c.loop-trace.world c.advance.new.world c.args.out.now c.loop-trace.out c.tell.new.out c.loop-trace.rest c.advance.new.agenda c.loop-trace.told c.loop-trace.front c.saw.new.self c.loop-trace.invariant
    c.in-Some.trace by c.in_ok-told.told (way-rests g.D.Disk law.only_now law.keeping_tells c.args.program.now c.advance.new.world (c.advance.new.world.placed by.steps.going)) c.in_ok-told.ensures.counts c.in_ok-told.ensures.more.0 c.in_ok-told.ensures.printed c.saw.ensures

pub loop-trace-smaller : goal.loop-trace-smaller
loop-trace-smaller g c = omega (arith, c.in_ok-told.ensures.more.0, c.in_ok-told.ensures.more.1)

pub returns-clause-done : goal.returns-clause-done
returns-clause-done g c =
    let n = stopped c.args.program.now (intervals_of c.args.policy.now) c.loop-trace.rest c.advance.new.agenda _ c.in_default.is c.in_ok-trace.ensures.step in
    seen-ended g.K.Sink _ c.loop-trace.invariant n.0 n.1

pub advance-requires-clause-world : goal.advance-requires-clause-world
advance-requires-clause-world g c = record { few = c.requires.world.few; made = c.loop-trace.invariant.run.goes.made; going = c.loop-trace.invariant.run.goes.going }
