use Rattle.std.proofs.Common.{refl, subst, List, true}
use Rattle.std.proofs.lemmas.Result.{err_from_is_err_and}
use Rattle.def_run.specs.Executions.{whole_agenda}
use Rattle.ic_base.specs.declared.events.Event.{Event}
use Rattle.ic_failover.specs.Carrying.{intervals_for, telling_for}
use Rattle.ic_run.specs.Running.{Executed, WasCut}
use Rattle.ic_failover.proofs.working.carry_out_event.Goals as goal

pub returns-in_err-tally-clause-cut : goal.returns-in_err-tally-clause-cut
returns-in_err-tally-clause-cut g c =
    let r = c.args.texts.now in
    let p = err_from_is_err_and c.from_residual.result c.from_residual.ensures.1 in
    let P : List Event → Type 0 = λ es. WasCut g.D.Disk g.K.Sink r.program (intervals_for r) (telling_for r) c.args.tally.events (whole_agenda es true) c.args.world.now c.run_events.new.world c.args.out.now c.run_events.new.out c.in_err-tally.field-0.0 in
    rw (p.1, p.2) (subst P c.from_ref-events.ensures.value c.in_err-tally.ensures.cut)

pub returns-clause-done : goal.returns-clause-done
returns-clause-done g c =
    let r = c.args.texts.now in
    let P : List Event → Type 0 = λ es. Executed g.K.Sink r.program (intervals_for r) (telling_for r) c.args.tally (whole_agenda es true) c.args.world.now c.run_events.new.world c.args.out.now c.run_events.new.out c.in_ok-tally.tally in
    record { executed = subst P c.from_ref-events.ensures.value c.in_ok-tally.ensures.done; same = refl }
