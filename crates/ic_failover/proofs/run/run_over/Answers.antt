use Rattle.std.proofs.Common.{◌∙◌, ap, refl, arith, ◌++◌, inl, inr}
use Rattle.ic_world.specs.Opening.{disks_under}
use Rattle.ic_world.specs.Views.{components_of}
use Rattle.ic_failover.proofs.Over.{count-under, ran-over}
use Rattle.ic_failover.proofs.run.run_over.Goals as goal

pub returns-in-Err : goal.returns-in-Err
returns-in-Err g c = inr (inl (refl, record { refused = c.in-Err.refused; told = c.why_of_start-why.ensures; fails = c.in-Err.ensures.refused; back = refl }))

pub into_disks-requires : goal.into_disks-requires
into_disks-requires g c =
    omega (
      arith,
      c.in-Ok.ensures.len,
      c.in-Ok.ensures.capacity,
      c.len.ensures,
      count-under g.D.Disk g.K.Sink c.args.texts.now c.args.disks.items c.in-Ok-open.world c.run_world-ended.new.world c.args.out.now c.run_world-ended.new.out c.in-Ok-open.ensures.step c.run_world-ended.result c.run_world-ended.ensures.done c.run_world-ended.ensures.short,
    )

pub returns : goal.returns
returns g c =
    ran-over g.D.Disk g.K.Sink c.args.texts.now c.args.disks.items c.in-Ok-open.world c.run_world-ended.new.world c.args.out.now c.run_world-ended.new.out c.in-Ok-open.ensures.step
    c.open.ensures.print c.into_disks.new.back.items (c.into_disks.ensures ∙ ap (λ l. l ++ disks_under (components_of c.run_world-ended.new.world)) c.in-Ok.ensures.items) c.run_world-ended.result c.run_world-ended.ensures.done c.run_world-ended.ensures.short
