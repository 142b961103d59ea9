-- The values of a script's books, and the begun moves with one more.
use Rattle.std.proofs.Common.{◌≡◌, ◌∙◌, ap, subst, ℕ, zero, suc, ◌-◌, ◌<◌, ◌⊎◌, inl, inr, List, [], ◌∷◌, ◌++◌, length, get_or, arith}
use Rattle.std.specs.Prelude.{Contains}
use Rattle.std.proofs.lemmas.List.Elements.{Contains-push_cases}
use Rattle.def_two.specs.declared.moves.Move.{Move}
use Rattle.def_two.specs.Moves.{nth_book}
use Rattle.ic_moves.specs.Chiefs.{openings_of}

second : {N : Type 0} (books : List (N × List ℕ)) (k : ℕ) (x : N × List ℕ) → k < length books → x ≡ get_or books k x → x.1 ≡ get_or (openings_of books) k []
second [] k x lt is = absurd (omega (arith, lt))
second (b ∷ books) zero x lt is = ap (λ y. y.1) is
second (b ∷ books) (suc k) x lt is = second books k x (omega (arith, lt)) is

-- the values of a book are those at one place less
pub keys_are : {N : Type 0} (books : List (N × List ℕ)) (b at : ℕ) (x : N × List ℕ) → 0 < b → at ≡ b - 1 → at < length books → x ≡ get_or books at x → length x.1 ≡ length (nth_book (openings_of books) b)
keys_are books zero at x some place lt is = absurd (omega (arith, some))
keys_are books (suc k) at x some place lt is =
    let same : at ≡ k = omega (arith, place) in
    ap length (second books k x (omega (arith, lt, same)) (is ∙ ap (λ i. get_or books i x) same))

-- what holds of the moves and of a new one holds of all
pub all_push : (P : Move → Type 0) (ms now : List Move) (m : Move) → now ≡ ms ++ m ∷ [] → ((k : Move) → Contains ms k → P k) → P m → (k : Move) → Contains now k → P k
all_push P ms now m is old new k there = at (Contains-push_cases ms m k (subst (λ l. Contains l k) is there))
  where
    at : Contains ms k ⊎ (m ≡ k) → P k
    at (inl h) = old k h
    at (inr e) = subst P e new
