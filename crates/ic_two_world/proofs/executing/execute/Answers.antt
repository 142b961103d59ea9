use Rattle.std.proofs.Common.{sym, subst}
use Rattle.std.proofs.lemmas.Result.{err_from_is_err_and}
use Rattle.def_two.specs.declared.script.Event2.{Event2}
use Rattle.def_two.specs.Runs.{IsEvent2}
use Rattle.def_two.specs.World.{next_event2}
use Rattle.ic_two_world.specs.Stepping.{Steps2, FailsToStep2}
use Rattle.ic_two_world.specs.Views.{openings_of, world_of}
use Rattle.ic_two_world.proofs.Executed.{goes-first, settles-by, settling-there, script-further, script-refused, settling-further, settling-refused, settling-lowers}
use Rattle.ic_two_world.proofs.executing.execute.Goals as goal

pub loop-event-init : goal.loop-event-init
loop-event-init g c = (_, goes-first g.D.Disk c.args.events.now c.args.world.now c.requires.going)

pub loop-event-preserved : goal.loop-event-preserved
loop-event-preserved g c =
    script-further g.D.Disk c.args.events.now c.args.world.now c.loop-event.world c.step.new.self c.loop-event.event-index _ c.loop-event-test.true c.loop-event.invariant c.in_ok-step.ensures.step

pub returns-in_err-step-clause-refused : goal.returns-in_err-step-clause-refused
returns-in_err-step-clause-refused g c =
    let p = err_from_is_err_and c.from_residual.result c.from_residual.ensures.1 in
    rw (p.1, p.2)
    (script-refused g.D.Disk c.args.events.now c.args.world.now c.loop-event.world c.step.new.self c.loop-event.event-index _ c.loop-event-test.true c.loop-event.invariant _ c.in_err-step.ensures.refused)

pub step-requires-in-Some-clause-event : goal.step-requires-in-Some-clause-event
step-requires-in-Some-clause-event g c =
    let here = c.loop-next.world in
    let z = settles-by (next_event2 (world_of here)) c.next_event2.result c.in-Some.next c.next_event2.ensures.next c.in-Some.is in
    subst (IsEvent2 (openings_of here)) z.2 (settling-there g.D.Disk here z.0 z.1)

pub loop-next-smaller : goal.loop-next-smaller
loop-next-smaller g c =
    let here = c.loop-next.world in
    let new = c.step-in-Some.new.self in
    let z = settles-by (next_event2 (world_of here)) c.next_event2.result c.in-Some.next c.next_event2.ensures.next c.in-Some.is in
    let P : Event2 → Type 0 = λ e. Steps2 g.D.Disk here e new in
    settling-lowers g.D.Disk c.args.events.now c.args.world.now here new c.loop-next.invariant z.0 z.1 (subst P (sym z.2) c.in_ok-step-2.ensures.step)

pub loop-next-preserved : goal.loop-next-preserved
loop-next-preserved g c =
    let here = c.loop-next.world in
    let new = c.step-in-Some.new.self in
    let z = settles-by (next_event2 (world_of here)) c.next_event2.result c.in-Some.next c.next_event2.ensures.next c.in-Some.is in
    let P : Event2 → Type 0 = λ e. Steps2 g.D.Disk here e new in
    settling-further g.D.Disk c.args.events.now c.args.world.now here new c.loop-next.invariant z.0 z.1 (subst P (sym z.2) c.in_ok-step-2.ensures.step)

pub returns-in_err-step-2-clause-refused : goal.returns-in_err-step-2-clause-refused
returns-in_err-step-2-clause-refused g c =
    let here = c.loop-next.world in
    let new = c.step-in-Some.new.self in
    let z = settles-by (next_event2 (world_of here)) c.next_event2.result c.in-Some.next c.next_event2.ensures.next c.in-Some.is in
    let P : Event2 → Type 0 = λ e. FailsToStep2 g.D.Disk here e new c.in_err-step-2.field-0.0 in
    let p = err_from_is_err_and c.from_residual-in_err-step-2.result c.from_residual-in_err-step-2.ensures.1 in
    rw (p.1, p.2) (settling-refused g.D.Disk c.args.events.now c.args.world.now here new c.loop-next.invariant z.0 z.1 _ (subst P (sym z.2) c.in_err-step-2.ensures.refused))
