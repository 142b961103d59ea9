use Rattle.std.proofs.Common.{◌≡◌, ◌∙◌, ap, subst, arith, refl, ◌+◌, ◌++◌, map, take, drop, get_or, List}
use Rattle.std.specs.Prelude.{slice_set}
use Rattle.ic_in.specs.declared.inbox.Row.{Row}
use Rattle.ic_in.specs.Views.{covered_row}
use Rattle.ic_index.proofs.Reading.{map-next}
use Rattle.ic_in.proofs.inbox.cover_rows.Goals as goal

pub loop-i-preserved : goal.loop-i-preserved
loop-i-preserved c =
    let xs = c.args.rows.now.items in
    let i = c.loop-i.invariant in
    let long = c.args.rows.now.ok.0 in
    let done : List Row = map (covered_row c.args.at) (take c.loop-i.i xs) ++ drop c.loop-i.i xs in
    let P : List Row → Type 0 = λ l. c.index-row.result.now ≡ get_or l c.loop-i.i c.index-row.result.now in
    let read = subst P i.covered c.index-row.ensures in
    record {
      covered =
          ap (λ z. slice_set c.loop-i.rows.items c.loop-i.i z) c.cover.ensures
          ∙ ap (λ l. slice_set l c.loop-i.i (covered_row c.args.at c.index-row.result.now)) i.covered
          ∙ map-next (covered_row c.args.at) xs c.loop-i.i (c.loop-i.i + 1) c.index-row.result.now (omega arith) refl read;
      len = i.len;
      capacity = i.capacity;
    }
