use Rattle.std.proofs.Common.{◌∙◌, refl, ap, arith, length, length-append, ◌∷◌, []}
use Rattle.std.specs.Prelude.{reverse}
use Rattle.std.proofs.lemmas.List.{length-reverse}
use Rattle.ic_world.proofs.Makings.{popped, put-step, put-end}
use Rattle.ic_world.proofs.making.put_back.Goals as goal

pub loop-disk-init : goal.loop-disk-init
loop-disk-init g c = (refl, omega arith)

pub push_reserved-requires : goal.push_reserved-requires
push_reserved-requires g c =
    let last = popped c.loop-disk.rest.items c.pop.new.self.items c.pop.result c.in-Some.disk c.pop.ensures.items c.in-Some.is in
    omega (
      arith,
      ap length last,
      length-append c.pop.new.self.items (c.in-Some.disk ∷ []),
      ap length c.loop-disk.invariant.0,
      length-append c.loop-disk.back.items (reverse c.loop-disk.rest.items),
      length-append c.args.back.now.items (reverse c.args.rest.items),
      length-reverse c.loop-disk.rest.items,
      length-reverse c.args.rest.items,
      c.loop-disk.back.ok,
      c.args.back.now.ok,
      c.args.rest.ok,
      c.requires,
      c.loop-disk.invariant.1,
    )

pub loop-disk-smaller : goal.loop-disk-smaller
loop-disk-smaller g c = omega (arith, (c.in-Some.ensures {u = tt}).cases)

pub loop-disk-preserved : goal.loop-disk-preserved
loop-disk-preserved g c =
    let last = popped c.loop-disk.rest.items c.pop.new.self.items c.pop.result c.in-Some.disk c.pop.ensures.items c.in-Some.is in (
      put-step c.loop-disk.back.items c.push_reserved.new.list.items c.loop-disk.rest.items c.pop.new.self.items c.in-Some.disk c.push_reserved.ensures.items last ∙ c.loop-disk.invariant.0,
      omega (arith, c.loop-disk.invariant.1, c.push_reserved.ensures.capacity),
    )

pub returns : goal.returns
returns g c = put-end c.loop-disk.back.items c.loop-disk.rest.items _ c.loop-disk.invariant.0 (omega (arith, (c.in_default.ensures {u = tt}).cases.0, c.loop-disk.rest.ok))
