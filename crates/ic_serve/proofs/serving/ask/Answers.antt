use Rattle.std.proofs.Common.{◌∙◌, sym, subst, refl, inl}
use Rattle.def_serve.specs.Lines.{input_for}
use Rattle.ic_base.specs.declared.events.Event.{Event}
use Rattle.ic_plan.specs.Served.{request_seen}
use Rattle.ic_run.specs.declared.running.Cut.{Cut}
use Rattle.ic_settle.specs.Policies.{intervals_of}
use Rattle.ic_serve.specs.Gathering.{Gathered, FailsToGather}
use Rattle.ic_serve.specs.Serving.{agenda_for}
use Rattle.ic_serve.specs.declared.telling.Form.TheVariants as forms
use Rattle.ic_serve.proofs.Asking.{asked, gathered-from, cut-from}
use Rattle.ic_serve.proofs.Results.{on-done, on-refused}
use Rattle.ic_serve.proofs.serving.ask.Goals as goal

pub returns-in-New-clause-done : goal.returns-in-New-clause-done
returns-in-New-clause-done g c =
    let was = asked c.args.service.now c.ask.new.self c.ask.ensures.same in
    let P : Event → Type 0 = λ e. Gathered c.args.program.now (intervals_of c.args.policy.now) c.args.policy.now.report forms.Request (agenda_for e) was c.do_event.new.service c.args.world.now c.do_event.new.world in
    on-done c.do_event.result c.do_event.ensures.done
    (λ x. inl (sym (c.in_ok-answer.ensures {u = tt}).answer ∙ c.in-New.is, gathered-from c.args.service.now c.ask.new.self c.ask.ensures.same c.args.program.now (intervals_of c.args.policy.now) c.args.policy.now.report (subst P c.input_for-event.ensures x)))

pub returns-in-New-clause-cut : goal.returns-in-New-clause-cut
returns-in-New-clause-cut g c =
    let was = asked c.args.service.now c.ask.new.self c.ask.ensures.same in
    let P : Cut → Event → Type 0 = λ cut e. FailsToGather g.D.Disk c.args.program.now (intervals_of c.args.policy.now) c.args.policy.now.report forms.Request (agenda_for e) was c.args.world.now c.do_event.new.world cut in
    on-refused c.do_event.result c.do_event.ensures.cut
    (λ cut f. inl ((input_for (request_seen c.args.request.now), forms.Request), refl, c.requires.event, cut-from c.args.service.now c.ask.new.self c.ask.ensures.same g.D.Disk c.args.program.now (intervals_of c.args.policy.now) c.args.policy.now.report (subst (P cut) c.input_for-event.ensures f)))
