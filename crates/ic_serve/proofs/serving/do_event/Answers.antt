use Rattle.std.proofs.Common.{subst, false, List, None}
use Rattle.ic_base.specs.declared.events.Event.{Event}
use Rattle.ic_run.proofs.Nexts.{agenda_with}
use Rattle.ic_run.specs.declared.running.Cut.{Cut}
use Rattle.ic_settle.specs.Policies.{intervals_of}
use Rattle.ic_serve.specs.Gathering.{Gathered, FailsToGather}
use Rattle.ic_serve.proofs.Results.{on-done, on-refused}
use Rattle.ic_serve.proofs.serving.do_event.Goals as goal

pub returns-clause-done : goal.returns-clause-done
returns-clause-done g c =
    let P : List Event → Type 0 = λ l. Gathered c.args.program.now (intervals_of c.args.policy.now) c.args.policy.now.report c.args.form (agenda_with l false None) c.args.service.now c.gather.new.service c.args.world.now c.gather.new.world in
    on-done c.gather.result c.gather.ensures.done (λ x. subst P c.from_ref.ensures.value x)

pub returns-clause-cut : goal.returns-clause-cut
returns-clause-cut g c =
    let P : Cut → List Event → Type 0 = λ cut l. FailsToGather g.D.Disk c.args.program.now (intervals_of c.args.policy.now) c.args.policy.now.report c.args.form (agenda_with l false None) c.args.service.now c.args.world.now c.gather.new.world cut in
    on-refused c.gather.result c.gather.ensures.cut (λ cut f. subst (P cut) c.from_ref.ensures.value f)
