use Rattle.std.proofs.Common.{◌≡◌, ◌∙◌, sym, ap, arith, Some, get_or}
use Rattle.std.specs.Prelude.{slice_get}
use Rattle.std.proofs.lemmas.Option.{slice_get-get_or}
use Rattle.ic_run.proofs.Steps.{takes_inside, takes_outside, not_of}
use Rattle.ic_run.proofs.lending.take_disks.Goals as goal
use Rattle.ic_run.proofs.lending.take_disks.Goals.{then-has_disk, else-has_disk}

pub loop-i-preserved : goal.loop-i-preserved
loop-i-preserved g c =
    let xs = c.args.program.now.components in
    let x = get_or c.as_slice-components.result.now c.loop-i.i c.index-components-i.result in
    let at : slice_get xs c.loop-i.i ≡ Some x = ap (λ l. slice_get l c.loop-i.i) (sym c.as_slice-components.ensures) ∙ slice_get-get_or c.as_slice-components.result.now c.loop-i.i c.index-components-i.result c.loop-i-test.true in
    elim c.if-has_disk.branch [
      | then-has_disk w ↦ (
        takes_inside xs c.args.disks.now.items c.loop-i.i c.loop-i.at c.loop-i.taken.items c.loop-i.disks.items c.loop-i.invariant.0 x at (not_of _ _ _ c.has_disk.ensures w.if-has_disk.true)
            w.remove.result w.remove.ensures.value c.if-has_disk.at c.if-has_disk.taken.items c.if-has_disk.disks.items w.at-is (ap (λ v. v.items) w.taken-is ∙ w.push_reserved.ensures.items) (ap (λ v. v.items) w.disks-is ∙ w.remove.ensures.items),
        rw w.taken-is (omega (arith, c.loop-i.invariant.1, w.push_reserved.ensures.capacity)),
        rw w.disks-is (w.remove.ensures.capacity ∙ c.loop-i.invariant.2),
      )
      | else-has_disk w ↦ (
        takes_outside xs c.args.disks.now.items c.loop-i.i c.loop-i.at c.loop-i.taken.items c.loop-i.disks.items c.loop-i.invariant.0 x at (not_of _ _ _ c.has_disk.ensures w.if-has_disk.false)
            c.if-has_disk.at c.if-has_disk.taken.items c.if-has_disk.disks.items w.at-is (ap (λ v. v.items) w.taken-is) (ap (λ v. v.items) w.disks-is),
        rw w.taken-is c.loop-i.invariant.1,
        rw w.disks-is c.loop-i.invariant.2,
      )
    ]
