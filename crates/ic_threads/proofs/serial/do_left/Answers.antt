use Rattle.std.proofs.Common.{◌≡◌, refl, subst, arith, false, Option}
use Rattle.std.specs.Prelude.{IfSome}
use Rattle.std.proofs.lemmas.Result.{err_from_is_err_and}
use Rattle.ic_base.specs.declared.events.Trace.{Trace}
use Rattle.ic_settle.specs.Policies.{intervals_of}
use Rattle.ic_threads.proofs.Under.{under-begins, under-further, under-refused, under-kept, advanced-left}
use Rattle.ic_threads.proofs.serial.do_left.Goals as goal

pub loop-trace-init : goal.loop-trace-init
loop-trace-init g c =
    let law = g.met.D.Disk in
    let w = c.args.world.now in
    under-begins g.D.Disk law.only_now law.keeping_tells c.args.program.now (intervals_of c.args.policy.now) c.args.tally c.args.left.now w c.args.shown.now _ c.requires.world.made c.requires.world.going (w.placed c.requires.world.going) (omega (arith, w.plays)) refl refl refl c.requires.events

pub returns-in_err-trace-clause-cut : goal.returns-in_err-trace-clause-cut
returns-in_err-trace-clause-cut g c =
    let p = err_from_is_err_and c.from_residual.result c.from_residual.ensures.1 in
    rw (p.1, p.2)
    (under-refused g.D.Disk c.args.program.now (intervals_of c.args.policy.now) c.args.tally c.args.left.now c.args.world.now c.loop-trace.world c.advance_left.new.world c.args.shown.now c.loop-trace.shown c.loop-trace.agenda c.loop-trace.told c.in_err-trace.field-0.0 c.loop-trace.invariant c.in_err-trace.ensures.refused)

pub loop-trace-preserved : goal.loop-trace-preserved
loop-trace-preserved g c =
    let p = c.args.program.now in
    let x = intervals_of c.args.policy.now in
    let t = c.in-Some.trace in
    let by = advanced-left p x c.loop-trace.agenda c.advance_left.new.agenda c.loop-trace.world c.advance_left.new.world _ t c.in-Some.is c.in_ok-trace.ensures.step in
    let H : Option Trace → Type 0 = λ o. IfSome o (λ t. c.advance_left.new.agenda.halts ≡ false) in
    under-further p x c.args.tally c.args.left.now c.args.world.now c.loop-trace.world c.advance_left.new.world c.args.shown.now c.loop-trace.shown c.add_shown.new.shown c.loop-trace.agenda c.advance_left.new.agenda c.loop-trace.told c.in-Some-with.now c.loop-trace.invariant t by
    (subst H c.in-Some.is c.in_ok-trace.ensures.settles) c.in-Some-with.ensures.counts c.in_ok-add_shown.ensures

pub returns-in_default-with-clause-cut : goal.returns-in_default-with-clause-cut
returns-in_default-with-clause-cut g c =
    let p = c.args.program.now in
    let x = intervals_of c.args.policy.now in
    let t = c.in-Some.trace in
    let by = advanced-left p x c.loop-trace.agenda c.advance_left.new.agenda c.loop-trace.world c.advance_left.new.world _ t c.in-Some.is c.in_ok-trace.ensures.step in
    under-kept p x c.args.tally c.args.left.now c.args.world.now c.loop-trace.world c.advance_left.new.world c.args.shown.now c.loop-trace.shown c.loop-trace.agenda c.advance_left.new.agenda c.loop-trace.told t c.loop-trace.invariant by

pub returns-in_err-add_shown-clause-cut : goal.returns-in_err-add_shown-clause-cut
returns-in_err-add_shown-clause-cut g c =
    let p = err_from_is_err_and c.from_residual-in_err-add_shown.result c.from_residual-in_err-add_shown.ensures.1 in
    let q = c.args.program.now in
    let x = intervals_of c.args.policy.now in
    let t = c.in-Some.trace in
    let by = advanced-left q x c.loop-trace.agenda c.advance_left.new.agenda c.loop-trace.world c.advance_left.new.world _ t c.in-Some.is c.in_ok-trace.ensures.step in
    rw (p.1, p.2)
    (under-kept q x c.args.tally c.args.left.now c.args.world.now c.loop-trace.world c.advance_left.new.world c.args.shown.now c.loop-trace.shown c.loop-trace.agenda c.advance_left.new.agenda c.loop-trace.told t c.loop-trace.invariant by)

pub advance_left-requires-clause-world : goal.advance_left-requires-clause-world
advance_left-requires-clause-world g c = record { few = c.requires.world.few; made = c.loop-trace.invariant.goes.made; going = c.loop-trace.invariant.goes.going }
