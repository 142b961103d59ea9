-- The opening values of a script's books.
use Rattle.std.proofs.Common.{◌≡◌, ap, ℕ, zero, suc, ◌-◌, ◌<◌, List, [], ◌∷◌, ◌∙◌, length, get_or, arith}
use Rattle.def_two.specs.Moves.{nth_book}
use Rattle.ic_moves.specs.Chiefs.{openings_of}

second : {N : Type 0} (books : List (N × List ℕ)) (k : ℕ) (x : N × List ℕ) → k < length books → x ≡ get_or books k x → x.1 ≡ get_or (openings_of books) k []
second [] k x lt is = absurd (omega (arith, lt))
second (b ∷ books) zero x lt is = ap (λ y. y.1) is
second (b ∷ books) (suc k) x lt is = second books k x (omega (arith, lt)) is

-- those of a book stand at one place less
pub values_are : {N : Type 0} (books : List (N × List ℕ)) (b at : ℕ) (x : N × List ℕ) → 0 < b → at ≡ b - 1 → at < length books → x ≡ get_or books at x → x.1 ≡ nth_book (openings_of books) b
values_are books zero at x some place lt is = absurd (omega (arith, some))
values_are books (suc k) at x some place lt is =
    let same : at ≡ k = omega (arith, place) in
    second books k x (omega (arith, lt, same)) (is ∙ ap (λ i. get_or books i x) same)
