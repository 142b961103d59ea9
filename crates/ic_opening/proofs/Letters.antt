-- What the writes of a new log make of a file, and what a crash within them leaves.
use Rattle.std.proofs.Common.{◌≡◌, ◌∙◌, inl, inr, ap, subst, ℕ, ◌+◌, ◌≤◌, List, [], ◌∷◌, ◌++◌, length, take, arith}
use Rattle.std.proofs.lemmas.List.{append-nil, drop_all}
use Rattle.def_log.specs.Images.{IsTorn}
use Rattle.def_log.specs.Torn.{written}
use Rattle.def_log.specs.Frame.{letters}
use Rattle.def_former.specs.Opening.{unopened, IsUnopened, IsWholeOrRefused}
use Rattle.def_former.proofs.Opening.{opening_leaves}

-- the byte 0, and what stands behind it
pub first_written : (old : List ℕ) → old ≡ [] → written old 0 (0 ∷ []) ≡ 0 ∷ []
first_written old empty = ap (λ (l : List ℕ). written l 0 (0 ∷ [])) empty

pub rest_written : (mid rest : List ℕ) → mid ≡ 0 ∷ [] → written mid 1 rest ≡ 0 ∷ rest
rest_written mid rest one =
    ap (λ (l : List ℕ). written l 1 rest) one
    ∙ ap (λ (l : List ℕ). 0 ∷ (rest ++ l)) (drop_all (1 + length rest) (0 ∷ []) (omega arith)) ∙ ap (λ (l : List ℕ). 0 ∷ l) (append-nil rest)

-- the first letter
pub letter_written : (old log : List ℕ) → old ≡ unopened log → 1 ≤ length log → written old 0 (take 1 log) ≡ log
letter_written old [] is some = absurd (omega (arith, some))
letter_written old (a ∷ log) is some = ap (λ (l : List ℕ). written l 0 (a ∷ [])) is

-- within the first write there is at most one byte
pub first_torn : (old image : List ℕ) → old ≡ [] → IsTorn 0 1 old image → IsUnopened image
first_torn old image empty torn = inl (omega (arith, torn.no_longer, ap length empty))

-- within the second one the byte 0 stands
pub rest_torn : (count : ℕ) (mid image : List ℕ) → mid ≡ 0 ∷ [] → IsTorn 1 count mid image → IsUnopened image
rest_torn count mid image one torn = inr (torn.before ∙ ap (take 1) one)

-- within the last one the log is whole or refused
pub letter_torn : (old log front image : List ℕ) → old ≡ unopened log → take 1 log ≡ take 1 letters → length front ≡ 1 → IsTorn 0 (length front) old image → IsWholeOrRefused log image
letter_torn old log front image is first one torn =
    opening_leaves log image first (subst (λ (n : ℕ). IsTorn 0 n (unopened log) image) one (subst (λ (was : List ℕ). IsTorn 0 (length front) was image) is torn))
