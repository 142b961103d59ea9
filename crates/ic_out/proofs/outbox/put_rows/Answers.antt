use Rattle.std.proofs.Common.{◌≡◌, ◌∙◌, ap, subst, arith, refl, ◌+◌, get_or, List}
use Rattle.std.specs.Prelude.{slice_set}
use Rattle.ic_index.proofs.Reading.{map-next}
use Rattle.ic_out.specs.declared.outbox.Row.{Row}
use Rattle.ic_out.specs.Views.{put_row}
use Rattle.ic_out.proofs.outbox.put_rows.Goals as goal

pub loop-i-preserved : goal.loop-i-preserved
loop-i-preserved c =
    let xs = c.args.rows.now.items in
    let i = c.loop-i.invariant in
    let long = c.args.rows.now.ok.0 in
    let P : List Row → Type 0 = λ l. c.index-row.result.now ≡ get_or l c.loop-i.i c.index-row.result.now in
    let read = subst P i.put c.index-row.ensures in
    record {
      put =
          ap (λ l. slice_set l c.loop-i.i (put_row c.index-row.result.now)) i.put
          ∙ map-next put_row xs c.loop-i.i (c.loop-i.i + 1) c.index-row.result.now (omega arith) refl read;
      len = i.len;
      capacity = i.capacity;
    }
