use Rattle.std.proofs.Common.{sym, subst, refl, List, [], map}
use Rattle.std.proofs.lemmas.List.{append-nil}
use Rattle.std.proofs.lemmas.Result.{err_from_is_err_and}
use Rattle.ic_base.specs.declared.events.Event.{Event}
use Rattle.def_client.specs.Clients.{item_of}
use Rattle.def_run.specs.Executions.{whole_agenda}
use Rattle.ic_settle.specs.Policies.{intervals_of}
use Rattle.ic_clients.specs.Working.{AllWorkedOff, FailsToWorkAll}
use Rattle.ic_clients.proofs.Cutting.{all-cut, all-ran, cut-behind}
use Rattle.ic_clients.proofs.Results.{on-ok, on-err}
use Rattle.ic_clients.proofs.working.pursue_clients.Goals as goal

pub returns-in_err-told-clause-cut : goal.returns-in_err-told-clause-cut
returns-in_err-told-clause-cut g c =
    let p = err_from_is_err_and c.from_residual.result c.from_residual.ensures.1 in
    let x = intervals_of c.args.policy.now in
    let P : List Event → Type 0 = λ es. FailsToWorkAll g.D.Disk g.K.Sink c.args.program.now x c.args.level (map item_of es) c.args.world.now c.work_all.new.world c.args.out.now c.work_all.new.out c.in_err-told.field-0.0 in
    rw (p.1, p.2)
    (all-cut g.D.Disk g.K.Sink c.args.program.now x c.args.level c.args.world.now c.work_all.new.world c.args.out.now c.work_all.new.out (map item_of c.args.schedule.now.events) c.args.schedule.now.halts c.in_err-told.field-0.0
    (subst P c.as_slice.ensures c.in_err-told.ensures.cut))

pub returns-clause-done : goal.returns-clause-done
returns-clause-done g c =
    let x = intervals_of c.args.policy.now in
    let items = map item_of c.args.schedule.now.events in
    let halts = c.args.schedule.now.halts in
    let P : List Event → Type 0 = λ es. AllWorkedOff g.K.Sink c.args.program.now x c.args.level (map item_of es) c.work_all.new.front.taken c.args.world.now c.work_all.new.world c.args.out.now c.work_all.new.out c.in_ok-told.told in
    let w = subst P c.as_slice.ensures c.in_ok-told.ensures.done in
    on-ok c.pursue_seen.result c.pursue_seen.ensures.done
    (λ tally p. all-ran g.K.Sink c.args.program.now x c.args.level items items [] halts (sym (append-nil items)) c.work_all.new.front.taken c.args.world.now c.work_all.new.world c.args.out.now c.work_all.new.out c.in_ok-told.told w
    (whole_agenda [] halts) refl c.pursue_seen.new.world c.pursue_seen.new.out c.pursue_seen.new.front.taken tally refl p)

pub returns-clause-cut : goal.returns-clause-cut
returns-clause-cut g c =
    let x = intervals_of c.args.policy.now in
    let items = map item_of c.args.schedule.now.events in
    let halts = c.args.schedule.now.halts in
    let P : List Event → Type 0 = λ es. AllWorkedOff g.K.Sink c.args.program.now x c.args.level (map item_of es) c.work_all.new.front.taken c.args.world.now c.work_all.new.world c.args.out.now c.work_all.new.out c.in_ok-told.told in
    let w = subst P c.as_slice.ensures c.in_ok-told.ensures.done in
    on-err c.pursue_seen.result c.pursue_seen.ensures.cut
    (λ cut p. cut-behind g.D.Disk g.K.Sink c.args.program.now x c.args.level items items [] halts (sym (append-nil items)) c.work_all.new.front.taken c.args.world.now c.work_all.new.world c.pursue_seen.new.world c.args.out.now c.work_all.new.out c.pursue_seen.new.out c.in_ok-told.told w
    (whole_agenda [] halts) refl cut p)
