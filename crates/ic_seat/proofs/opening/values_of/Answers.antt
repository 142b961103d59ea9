use Rattle.std.proofs.Common.{◌≡◌, ◌∙◌, ◌-◌, ap, sym, arith, List, ℕ, get_or}
use Rattle.ic_seat.proofs.Openings.{values_are}
use Rattle.ic_seat.proofs.opening.values_of.Goals as goal

pub returns : goal.returns
returns c =
    let xs = c.args.books.now in
    let at = c.from.result in
    let item = c.index-as_slice-from.result in
    let is : item ≡ get_or xs at item = c.index-as_slice-from.is ∙ ap (λ (l : List (List ℕ × List ℕ)). get_or l at item) c.as_slice.ensures in
    let place : at ≡ c.args.book - 1 = c.from.ensures in
    c.as_slice-2.ensures ∙ ap (λ (x : List ℕ × List ℕ). x.1) (sym c.index-as_slice-from.is) ∙ values_are xs c.args.book at item c.requires.some place (omega (arith, place, c.requires.some, c.requires.there)) is
