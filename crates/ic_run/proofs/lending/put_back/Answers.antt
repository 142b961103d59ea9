use Rattle.std.proofs.Common.{◌≡◌, ◌∙◌, sym, ap, ◌∷◌, length, arith, Some, get_or}
use Rattle.std.specs.Prelude.{slice_get}
use Rattle.std.specs.Vec.Iter.{into_iter_items}
use Rattle.std.proofs.lemmas.Option.{slice_get-get_or}
use Rattle.ic_run.proofs.Steps.{gives_inside, gives_outside, not_of}
use Rattle.ic_run.proofs.lending.put_back.Goals as goal
use Rattle.ic_run.proofs.lending.put_back.Goals.{then-has_disk+in-Some, else-has_disk}

pub loop-i-preserved : goal.loop-i-preserved
loop-i-preserved g c =
    let xs = c.args.program.now.components in
    let x = get_or c.as_slice-components.result.now c.loop-i.i c.index-components-i.result in
    let at : slice_get xs c.loop-i.i ≡ Some x = ap (λ l. slice_get l c.loop-i.i) (sym c.as_slice-components.ensures) ∙ slice_get-get_or c.as_slice-components.result.now c.loop-i.i c.index-components-i.result c.loop-i-test.true in
    let left = into_iter_items c.loop-i.taken in
    elim c.if-has_disk.branch [
      | then-has_disk+in-Some w ↦
          (let popped : left ≡ w.in-Some.disk ∷ into_iter_items c.if-has_disk.taken = (w.in-Some.ensures {u = tt}).items ∙ ap (λ v. w.in-Some.disk ∷ into_iter_items v) (sym w.taken-is) in (
            gives_inside xs c.args.disks.now.items c.args.taken.items c.loop-i.i left c.loop-i.disks.items c.loop-i.invariant.0 x at (not_of _ _ _ c.has_disk.ensures w.if-has_disk.true)
                w.in-Some.disk (into_iter_items c.if-has_disk.taken) c.if-has_disk.disks.items popped (ap (λ v. v.items) w.disks-is ∙ w.insert_reserved.ensures.items),
            rw w.disks-is (omega (arith, c.loop-i.invariant.1, ap length popped, w.insert_reserved.ensures.len, w.insert_reserved.ensures.capacity)),
          ))
      | else-has_disk w ↦ (
        gives_outside xs c.args.disks.now.items c.args.taken.items c.loop-i.i left c.loop-i.disks.items c.loop-i.invariant.0 x at (not_of _ _ _ c.has_disk.ensures w.if-has_disk.false)
            (into_iter_items c.if-has_disk.taken) c.if-has_disk.disks.items (ap into_iter_items w.taken-is) (ap (λ v. v.items) w.disks-is),
        rw (w.disks-is, w.taken-is) c.loop-i.invariant.1,
      )
    ]
