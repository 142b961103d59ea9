use Rattle.std.proofs.Common.{◌≡◌, ◌∙◌, ap, sym, rules, length, min}
use Rattle.std.proofs.lemmas.Slice.Zip.{zip_end}
use Rattle.ic_report.specs.Said.{said}
use Rattle.ic_report.proofs.Saying.{cells-end}
use Rattle.ic_report.proofs.summaries.add_cells.Goals as goal

pub returns : goal.returns
returns c =
    let all : length c.loop-cell.yielded ≡ min (length c.args.cells.now) (length c.args.values.now) =
    zip_end c.args.cells.now c.args.values.now c.loop-cell.yielded c.into_iter-cell-iterator.result c.loop-cell.cell-iterator c.next.new.self c.next.result
    (search rules) (search rules) c.loop-cell.yielded_by c.in-None.is c.next.ensures.steps in
    let e = cells-end c.args.cells.now c.args.values.now (length c.loop-cell.yielded) all in
    sym (ap (λ ws. said c.loop-cell.out.items ws) e) ∙ c.loop-cell.invariant
