-- A number of more digits is no smaller.
use Rattle.std.proofs.Common.{◌≡◌, ℕ, ◌+◌, ◌-◌, ◌*◌, ◌<◌, true, false, List, [], ◌∷◌, length, drop, get_or, refl, sym, suc, ◌∙◌, arith}
use Rattle.std.specs.Prelude.{None}
use Rattle.std.specs.Char.{is_ascii_digit}
use Rattle.std.proofs.lemmas.Bool.Decides.{nat_tests}
use Rattle.std.proofs.Math.Seq.{drop-cons}
use Rattle.def_syntax.specs.Text.{at_most, digits_behind, natural}

pub digits_past : (limit n : ℕ) (ds : List ℕ) → limit < n → at_most limit (digits_behind n ds) ≡ None
digits_past limit n [] past = grind (arith, nat_tests)
digits_past limit n (d ∷ ds) past = elim (is_ascii_digit d) as (λ v. is_ascii_digit d ≡ v → at_most limit (digits_behind n (d ∷ ds)) ≡ None) [
  | true ↦ λ is. rw is (digits_past limit (n * 10 + (d - 48)) ds (omega arith))
  | false ↦ λ is. rw is refl
] refl

-- the next digit takes the number past the limit
pub digit_past : (limit value i : ℕ) (ds : List ℕ) → i < length ds → is_ascii_digit (get_or ds i 0) ≡ true → limit < value * 10 + (get_or ds i 0 - 48) → at_most limit (digits_behind value (drop i ds)) ≡ None
digit_past limit value i ds inside is past = rw (drop-cons ds i 0, is) (digits_past limit (value * 10 + (get_or ds i 0 - 48)) (drop (suc i) ds) past)

-- so these digits are no number within the limit
pub number_past : (limit value i : ℕ) (ds : List ℕ) → at_most limit (digits_behind 0 ds) ≡ at_most limit (digits_behind value (drop i ds)) → i < length ds → is_ascii_digit (get_or ds i 0) ≡ true → limit < value * 10 + (get_or ds i 0 - 48)
    → None ≡ at_most limit (natural ds)
number_past limit value i [] before inside is past = absurd (omega arith)
number_past limit value i (d ∷ ds) before inside is past = sym (before ∙ digit_past limit value i (d ∷ ds) inside is past)
