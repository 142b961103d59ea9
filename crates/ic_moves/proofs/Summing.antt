-- A sum of amounts, move by move.
use Rattle.std.proofs.Common.{◌≡◌, ◌∙◌, ap, sym, ℕ, ◌+◌, ◌<◌, suc, List, ◌∷◌, length, drop, get_or, drop-cons, add-one, Bool}
use Rattle.def_two.specs.declared.moves.Move.{Move}
use Rattle.def_two.specs.Moves.{amounts, amount_if}
use Rattle.law_two.proofs.Sums.{amounts-cons}

-- the sum from a place on is that of the move there and of those behind it
pub one_on : (t : Move → Bool) (ms : List Move) (i : ℕ) (m : Move) → i < length ms → m ≡ get_or ms i m → amounts t (drop i ms) ≡ amount_if t m + amounts t (drop (i + 1) ms)
one_on t ms i m lt is =
    let parts : drop i ms ≡ get_or ms i m ∷ drop (suc i) ms = drop-cons ms i m lt in
    let here : drop i ms ≡ m ∷ drop (i + 1) ms = parts ∙ ap (λ x. x ∷ drop (suc i) ms) (sym is) ∙ ap (λ k. m ∷ drop k ms) (sym (add-one i)) in
    ap (amounts t) here ∙ amounts-cons t m (drop (i + 1) ms)
