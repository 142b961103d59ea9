use Rattle.std.proofs.Common.{subst, refl, inl}
use Rattle.std.specs.Prelude.{IfSome}
use Rattle.def_run.specs.SystemStates.{without_stop}
use Rattle.def_serve.specs.Lines.{input_for}
use Rattle.ic_base.specs.declared.events.Event.{Event}
use Rattle.ic_base.specs.declared.events.What.TheVariants as whats
use Rattle.ic_plan.specs.Served.{event_in, request_seen}
use Rattle.ic_run.specs.Agendas.{MayCome}
use Rattle.ic_run.specs.declared.running.Cut.{Cut}
use Rattle.ic_settle.specs.Policies.{intervals_of}
use Rattle.ic_serve.specs.Gathering.{Gathered, FailsToGather}
use Rattle.ic_serve.specs.Serving.{agenda_for}
use Rattle.ic_serve.specs.declared.telling.Form.TheVariants.{Own}
use Rattle.ic_serve.proofs.Results.{on-done, on-refused}
use Rattle.ic_serve.proofs.serving.do_served.Goals as goal

pub returns-in-Gives-clause-done : goal.returns-in-Gives-clause-done
returns-in-Gives-clause-done g c =
    let P : Event → Type 0 = λ e. Gathered c.args.program.now (intervals_of c.args.policy.now) c.args.policy.now.report Own (agenda_for e) c.args.service.now c.do_event.new.service c.args.world.now c.do_event.new.world in
    rw c.in-Gives.is (on-done c.do_event.result c.do_event.ensures.done (λ x. subst P c.input_for-event.ensures x))

pub returns-in-Gives-clause-cut : goal.returns-in-Gives-clause-cut
returns-in-Gives-clause-cut g c =
    let P : Cut → Event → Type 0 = λ cut e. FailsToGather g.D.Disk c.args.program.now (intervals_of c.args.policy.now) c.args.policy.now.report Own (agenda_for e) c.args.service.now c.args.world.now c.do_event.new.world cut in
    rw c.in-Gives.is (on-refused c.do_event.result c.do_event.ensures.cut (λ cut f. inl ((input_for (request_seen c.in-Gives.request), Own), refl, subst (λ l. IfSome (event_in l) (MayCome c.args.program.now)) c.in-Gives.is c.requires.line, subst (P cut) c.input_for-event.ensures f)))

pub returns-in-Checkpoints-clause-cut : goal.returns-in-Checkpoints-clause-cut
returns-in-Checkpoints-clause-cut g c =
    rw c.in-Checkpoints.is (on-refused c.do_event-in-Checkpoints.result c.do_event-in-Checkpoints.ensures.cut (λ cut f. inl ((without_stop (whats.Checkpoint c.in-Checkpoints.c), Own), refl, subst (λ l. IfSome (event_in l) (MayCome c.args.program.now)) c.in-Checkpoints.is c.requires.line, f)))
