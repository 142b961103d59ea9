use Rattle.std.proofs.Common.{◌≡◌, ◌∙◌, ◌-◌, ap, sym, arith, List, ℕ, length, get_or}
use Rattle.ic_moves.proofs.Openings.{keys_are}
use Rattle.ic_moves.proofs.chief.keys_of.Goals as goal

pub returns-then-at-len : goal.returns-then-at-len
returns-then-at-len c =
    let xs = c.args.books.now in
    let at = c.from-at.result in
    let item = c.index-as_slice-at.result in
    let is : item ≡ get_or xs at item = c.index-as_slice-at.is ∙ ap (λ (l : List (List ℕ × List ℕ)). get_or l at item) c.as_slice.ensures in
    let place : at ≡ c.args.book - 1 = c.from-at.ensures in
    c.len-then-at-len.ensures ∙ ap (λ (x : List ℕ × List ℕ). length x.1) (sym c.index-as_slice-at.is) ∙ keys_are xs c.args.book at item (omega (arith, c.if-book-eq0.false)) place (omega (arith, c.if-at-len.true, c.len.ensures)) is
