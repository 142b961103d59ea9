use Rattle.std.proofs.Common.{◌≡◌, ◌∙◌, sym, ap, subst, ◌+◌, ◌++◌, ◌∷◌, Some, length, map, append-nil, codes, arith}
use Rattle.std.specs.Prelude.{slice_get, decimal}
use Rattle.std.proofs.lemmas.List.{drop_all}
use Rattle.std.proofs.lemmas.Option.{slice_get-get_or}
use Rattle.def_report.specs.Words.{line}
use Rattle.def_two.specs.Printed.{book_lines}
use Rattle.def_two.specs.World.{book_at}
use Rattle.ic_script.specs.Reading.{the_script}
use Rattle.ic_two_world.specs.Views.{openings_of, world_of}
use Rattle.ic_more.specs.Views.{IsUpWith}
use Rattle.ic_more.proofs.Telling.{book-there, one-more_book}
use Rattle.ic_more.proofs.world_lines.add_books.Goals as goal

pub add_book-requires-clause-up : goal.add_book-requires-clause-up
add_book-requires-clause-up g c =
    let x = c.index-books-i.result in
    let at : slice_get c.args.script.now.books c.loop-i.i ≡ Some x = ap (λ l. slice_get l c.loop-i.i) (sym c.as_slice-books.ensures) ∙ slice_get-get_or c.as_slice-books.result.now c.loop-i.i x c.loop-i-test.true ∙ ap Some (sym c.index-books-i.is) in
    let there = book-there (openings_of c.args.world.now) c.args.script.now.books c.loop-i.i x c.requires.openings at in
    subst (IsUpWith (openings_of c.args.world.now) (world_of c.args.world.now) (c.loop-i.i + 1)) (ap length there.1 ∙ sym c.len.ensures) (c.requires.up (c.loop-i.i + 1) there.0)

pub add_book-requires-clause-few : goal.add_book-requires-clause-few
add_book-requires-clause-few g c =
    let x = c.index-books-i.result in
    let at : slice_get c.args.script.now.books c.loop-i.i ≡ Some x = ap (λ l. slice_get l c.loop-i.i) (sym c.as_slice-books.ensures) ∙ slice_get-get_or c.as_slice-books.result.now c.loop-i.i x c.loop-i-test.true ∙ ap Some (sym c.index-books-i.is) in
    let there = book-there (openings_of c.args.world.now) c.args.script.now.books c.loop-i.i x c.requires.openings at in
    omega (arith, c.requires.few.2 (c.loop-i.i + 1), ap length there.1, c.len.ensures)

pub loop-i-preserved : goal.loop-i-preserved
loop-i-preserved g c =
    let s = the_script c.args.script.now in
    let w = world_of c.args.world.now in
    let out = c.loop-i.out.items in
    let x = c.index-books-i.result in
    let at : slice_get c.args.script.now.books c.loop-i.i ≡ Some x = ap (λ l. slice_get l c.loop-i.i) (sym c.as_slice-books.ensures) ∙ slice_get-get_or c.as_slice-books.result.now c.loop-i.i x c.loop-i-test.true ∙ ap Some (sym c.index-books-i.is) in
    one-more_book s w out c.add_book.new.out.items c.loop-i.i x at
    (c.in_ok-add_book.ensures {u = tt} ∙ ap (λ name. out ++ line (codes "book" ∷ name ∷ map decimal (book_at (openings_of c.args.world.now) w (c.loop-i.i + 1)).values)) c.as_slice.ensures
    ∙ ap (λ o. out ++ line (codes "book" ∷ x.0 ∷ map decimal (book_at o w (c.loop-i.i + 1)).values)) c.requires.openings)
    ∙ c.loop-i.invariant

pub returns : goal.returns
returns g c =
    let books = c.args.script.now.books in
    let out = c.loop-i.out.items in
    sym (append-nil out) ∙ ap (λ l. out ++ book_lines (the_script c.args.script.now) (world_of c.args.world.now) (c.loop-i.i + 1) l) (sym (drop_all c.loop-i.i books (omega (arith, c.loop-i-test.false, ap length c.as_slice-books.ensures))))
    ∙ c.loop-i.invariant
