use Rattle.std.proofs.Common.{◌∙◌, ◌++◌, ◌∷◌, [], sym, ap, arith, length, length-append}
use Rattle.std.specs.Prelude.{reverse, Some, None}
use Rattle.std.proofs.lemmas.List.{append-nil}
use Rattle.ic_world.specs.Opening.{disks_under}
use Rattle.ic_world.proofs.Makings.{popped, reverse-twice, take-step, some-under, take-end}
use Rattle.ic_world.proofs.making.take_back.Goals as goal

pub loop-x-init : goal.loop-x-init
loop-x-init g c = (ap (λ l. c.args.back.now.items ++ disks_under l) (ap reverse c.reverse.ensures.items ∙ reverse-twice c.args.made.items), omega arith)

pub push_reserved-requires : goal.push_reserved-requires
push_reserved-requires g c =
    let last = popped c.loop-x.made.items c.pop.new.self.items c.pop.result c.in-Some.x c.pop.ensures.items c.in-Some.is in
    omega (
      arith,
      some-under g.D.Disk c.pop.new.self.items c.loop-x.made.items c.in-Some.x c.in-Some-into_disk.disk last (sym c.into_disk.ensures ∙ c.in-Some-into_disk.is),
      ap length c.loop-x.invariant.0,
      length-append c.loop-x.back.items (disks_under (reverse c.loop-x.made.items)),
      length-append c.args.back.now.items (disks_under c.args.made.items),
      c.loop-x.back.ok,
      c.args.back.now.ok,
      c.requires,
      c.loop-x.invariant.1,
    )

pub loop-x-smaller-in-Some-into_disk : goal.loop-x-smaller-in-Some-into_disk
loop-x-smaller-in-Some-into_disk g c = omega (arith, (c.in-Some.ensures {u = tt}).cases)

pub loop-x-preserved-in-Some-into_disk : goal.loop-x-preserved-in-Some-into_disk
loop-x-preserved-in-Some-into_disk g c =
    let last = popped c.loop-x.made.items c.pop.new.self.items c.pop.result c.in-Some.x c.pop.ensures.items c.in-Some.is in (
      take-step g.D.Disk c.loop-x.back.items c.push_reserved.new.list.items c.pop.new.self.items c.loop-x.made.items c.in-Some.x (Some c.in-Some-into_disk.disk) last (sym c.in-Some-into_disk.is ∙ c.into_disk.ensures)
          (c.push_reserved.ensures.items ∙ ap (λ d. c.loop-x.back.items ++ d ∷ []) c.into_inner.ensures) ∙ c.loop-x.invariant.0,
      omega (arith, c.loop-x.invariant.1, c.push_reserved.ensures.capacity),
    )

pub loop-x-smaller : goal.loop-x-smaller
loop-x-smaller g c = omega (arith, (c.in-Some.ensures {u = tt}).cases)

pub loop-x-preserved : goal.loop-x-preserved
loop-x-preserved g c =
    let last = popped c.loop-x.made.items c.pop.new.self.items c.pop.result c.in-Some.x c.pop.ensures.items c.in-Some.is in (
      take-step g.D.Disk c.loop-x.back.items c.loop-x.back.items c.pop.new.self.items c.loop-x.made.items c.in-Some.x None last (sym c.in_default-into_disk.is ∙ c.into_disk.ensures) (sym (append-nil c.loop-x.back.items)) ∙ c.loop-x.invariant.0,
      c.loop-x.invariant.1,
    )

pub returns-clause-disks : goal.returns-clause-disks
returns-clause-disks g c = take-end g.D.Disk c.loop-x.back.items c.loop-x.made.items _ c.loop-x.invariant.0 (omega (arith, (c.in_default.ensures {u = tt}).cases.0, c.loop-x.made.ok))

pub returns-clause-room : goal.returns-clause-room
returns-clause-room g c = c.loop-x.invariant.1
