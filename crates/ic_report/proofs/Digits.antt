-- The digits of the crate hex are those of a last line.
use Rattle.std.proofs.Common.{◌≡◌, ◌==◌, ℕ, zero, suc, ◌<◌, ◌/◌, ◌%◌, Bool, true, false, ◌&&◌, inl, inr, List, [], ◌∷◌, slice_index, refl, arith}
use Rattle.std.proofs.lemmas.Bool.{and_parts, cases_lt, eqb-true}
use Rattle.std.specs.Fmt.{digit_glyph}
use Rattle.hex.specs.Hex.{IsBytes, encode_lower, encode_with, lower_digits}
use Rattle.def_report.specs.Faults.{hex}

-- whether one digit is the same in both, and whether all those below a number are
abbrev is_same : ℕ → Bool
is_same d = slice_index lower_digits d == digit_glyph false d

abbrev are_same : ℕ → Bool
are_same zero = true
are_same (suc n) = is_same n && are_same n

same_at : (n d : ℕ) → are_same n ≡ true → d < n → is_same d ≡ true
same_at zero d all below = absurd (omega arith)
same_at (suc n) d all below =
    let parts = and_parts (is_same n) (are_same n) all in
    elim (cases_lt d n) [
      | inl less ↦ same_at n d parts.1 less
      | inr top ↦
          let last : d ≡ n = omega arith in
          rw last parts.0
    ]

digit_same : (d : ℕ) → d < 16 → slice_index lower_digits d ≡ digit_glyph false d
digit_same d small = eqb-true (slice_index lower_digits d) (digit_glyph false d) (same_at 16 d refl small)

-- the digits of bytes
pub digits_same : (bytes : List ℕ) → IsBytes bytes → encode_lower bytes ≡ hex bytes
unfolding encode_with
digits_same [] fits = refl
digits_same (b ∷ bs) fits =
    let byte : b < 256 = fits 0 in
    rw (digit_same (b / 16) (omega arith), digit_same (b % 16) (omega arith), digits_same bs (λ i. fits (suc i))) refl
