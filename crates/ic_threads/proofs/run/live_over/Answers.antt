use Rattle.std.proofs.Common.{◌∙◌, sym, ap, subst, arith, length, ◌++◌, List, option_map}
use Rattle.std.specs.List.{AllByRecursion}
use Rattle.ic_base.specs.declared.events.Event.{Event}
use Rattle.ic_joins.specs.Threads.{JoinsTold}
use Rattle.ic_world.specs.Opening.{disks_in, disks_under}
use Rattle.ic_world.specs.Views.{components_of}
use Rattle.ic_live.specs.Berthed.{list_of}
use Rattle.ic_live.specs.Ended.{HaveLeft}
use Rattle.ic_run.specs.Agendas.{MayCome}
use Rattle.ic_threads.proofs.Back.{counted-there, refused-count}
use Rattle.ic_threads.proofs.Lived.{new-count, left-may, lives-over}
use Rattle.ic_threads.proofs.run.live_over.Goals as goal

pub into_disks-requires : goal.into_disks-requires
into_disks-requires g c =
    omega (
      arith,
      c.in-Ok.ensures.len,
      c.in-Ok.ensures.capacity,
      c.len-count.ensures,
      c.requires.disks,
      new-count g.D.Disk c.args.texts.now c.in-Ok-run_threads.returned.components c.in-Ok-run_threads.returned.progresses c.in-Ok-run_threads.ensures.each c.in-Ok-join.joined c.in-Ok-join.ensures g.K.Sink c.finish-ended.new.joined c.args.out.now c.finish-ended.new.out c.finish-ended.result c.finish-ended.ensures.done c.finish-ended.ensures.cut,
    )

pub returns-clause-lives : goal.returns-clause-lives
returns-clause-lives g c =
    let r = c.args.texts.now in
    lives-over g.D.Disk c.args.texts.now c.in-Ok-run_threads.returned.components c.in-Ok-run_threads.returned.progresses c.in-Ok-run_threads.ensures.each c.in-Ok-join.joined c.in-Ok-join.ensures g.K.Sink c.finish-ended.new.joined c.args.out.now c.finish-ended.new.out
    c.requires.may.fit.playable c.requires.may.fit.flat c.requires.may.fit.bytes c.args.disks.items c.in-Ok-run_threads.ensures.turned
    (subst (λ (l : List Event). HaveLeft (λ z. list_of z l) c.in-Ok-run_threads.returned.components c.in-Ok-run_threads.returned.progresses) c.as_slice-plan.ensures c.in-Ok-run_threads.ensures.left)
    c.in-Ok-run_threads.ensures.since
    (subst (λ (l : List Event). JoinsTold g.D.Disk r.program r.fingerprint l c.args.disks.items c.in-Ok-run_threads.returned.components c.in-Ok-run_threads.returned.progresses) c.as_slice-plan.ensures c.in-Ok-run_threads.ensures.joined)
    c.into_disks.new.back.items (c.into_disks.ensures ∙ ap (λ l. l ++ disks_under (components_of c.finish-ended.new.joined.world)) c.in-Ok.ensures.items)
    c.finish-ended.result c.finish-ended.ensures.done c.finish-ended.ensures.cut

pub returns-clause-count : goal.returns-clause-count
returns-clause-count g c =
    ap length (c.into_disks.ensures ∙ ap (λ l. l ++ disks_under (components_of c.finish-ended.new.joined.world)) c.in-Ok.ensures.items)
    ∙ new-count g.D.Disk c.args.texts.now c.in-Ok-run_threads.returned.components c.in-Ok-run_threads.returned.progresses c.in-Ok-run_threads.ensures.each c.in-Ok-join.joined c.in-Ok-join.ensures g.K.Sink c.finish-ended.new.joined c.args.out.now c.finish-ended.new.out c.finish-ended.result c.finish-ended.ensures.done c.finish-ended.ensures.cut

pub finish-ended-requires-clause-events : goal.finish-ended-requires-clause-events
finish-ended-requires-clause-events g c =
    let r = c.args.texts.now in
    let xs = c.in-Ok-run_threads.returned.components in
    let ps = c.in-Ok-run_threads.returned.progresses in
    let left : HaveLeft (λ z. list_of z r.schedule.events) xs ps = subst (λ (l : List Event). HaveLeft (λ z. list_of z l) xs ps) c.as_slice-plan.ensures c.in-Ok-run_threads.ensures.left in
    subst (AllByRecursion (MayCome r.program)) (sym c.in-Ok-join.ensures.left) (left-may (MayCome r.program) r.schedule.events xs ps c.in-Ok-run_threads.ensures.each.progresses left c.requires.may.events)

pub returns-in-Err-clause-count : goal.returns-in-Err-clause-count
returns-in-Err-clause-count g c =
    counted-there (disks_in c.args.texts.now.program.components) c.refused_in-disks.result.0 (λ v. v.items)
    (refused-count g.D.Disk c.args.texts.now c.args.disks.items c.in-Err.refused (option_map (λ v. v.items) c.refused_in-disks.result.0) c.refused_in-disks.result.1 c.in-Err.ensures.refused c.refused_in-disks.ensures c.requires.disks)
