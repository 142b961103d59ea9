-- A number put at the place of its component.
use Rattle.std.proofs.Common.{◌≡◌, refl, ℕ, zero, suc, ◌<◌, Bool, true, false, [], ◌∷◌, length, arith}
use Rattle.std.specs.Prelude.{nat_lt, slice_set, slice_get, option_to_list}
use Rattle.std.specs.List.{prefix_len, insert, list_any}
use Rattle.std.proofs.lemmas.Bool.Decides.{nat_tests}
use Rattle.ic_base.specs.declared.messages.ComId.{ComId}
use Rattle.ic_base.specs.Programs.{same_com}
use Rattle.def_state.specs.Names.{Numbers, put_number}

abbrev pub comes_below : ComId → ComId × ℕ → Bool
comes_below c x = nat_lt x.0.0 c.0

pub put-set : (c : ComId) (n : ℕ) (xs : Numbers) (i : ℕ) → i ≡ prefix_len (comes_below c) xs → list_any (λ x. same_com c x.0) (option_to_list (slice_get xs i)) ≡ true → slice_set xs i (c, n) ≡ put_number c n xs
put-set c n [] i e h = absurd (cc)
put-set c n (y ∷ ys) zero e h = grind (arith, nat_tests)
put-set c n (y ∷ ys) (suc i) e h = grind (arith, nat_tests, put-set c n ys i)

pub put-insert : (c : ComId) (n : ℕ) (xs : Numbers) (i : ℕ) → i ≡ prefix_len (comes_below c) xs → list_any (λ x. same_com c x.0) (option_to_list (slice_get xs i)) ≡ false → insert xs i (c, n) ≡ put_number c n xs
put-insert c n [] zero e h = refl
put-insert c n [] (suc i) e h = absurd (omega arith)
put-insert c n (y ∷ ys) zero e h = grind (arith, nat_tests)
put-insert c n (y ∷ ys) (suc i) e h = grind (arith, nat_tests, put-insert c n ys i)

pub get-within : (c : ComId) (xs : Numbers) (i : ℕ) → list_any (λ x. same_com c x.0) (option_to_list (slice_get xs i)) ≡ true → i < length xs
get-within c [] i h = absurd (cc)
get-within c (y ∷ ys) zero h = omega arith
get-within c (y ∷ ys) (suc i) h = omega (arith, get-within c ys i h)
