use Rattle.std.proofs.Common.{◌≡◌, false, sym, subst}
use Rattle.ic_disk.specs.Disk.{Makes}
use Rattle.ic_disk.proofs.Disks.{makes_refused}
use Rattle.ic_gate.specs.Reading.{load_calls}
use Rattle.ic_gate.specs.declared.refusals.LoadWhy.TheVariants.{Failed}
use Rattle.def_two.specs.Book.{first_book}
use Rattle.def_two.specs.Refusals.{book_misfit}
use Rattle.ic_two.specs.Loading.{RefusesToComeUp}
use Rattle.ic_two.proofs.Refusals.{not_played}
use Rattle.ic_two.proofs.book.Book.recover.Goals as goal

pub returns-in-Err-clause-calls : goal.returns-in-Err-clause-calls
returns-in-Err-clause-calls g c =
    let P : g.row.D.Denot → Type 0 = λ x. Makes g.D.Disk load_calls false (c.in-Err.why ≡ Failed) c.args.disk x in
    subst P (sym c.into_disk.ensures) (makes_refused _ (c.in_ok-log.ensures {u = tt}).calls)

pub returns-in-Err-clause-refused : goal.returns-in-Err-clause-refused
returns-in-Err-clause-refused g c =
    let misfit = book_misfit c.args.book (first_book c.args.values.now) in
    let P : g.row.D.Denot → Type 0 = λ x. RefusesToComeUp g.D.Disk misfit c.args.disk c.args.fingerprint.now c.args.book x c.in-Err.why in
    subst P (sym c.into_disk.ensures)
    (not_played g.D.Disk misfit c.args.disk c.args.fingerprint.now c.args.book c.in_ok-log.log c.in_ok-log.placed c.in-Err.why (c.in_ok-log.ensures {u = tt}).step (c.in-Err.ensures {u = tt}).refused)
