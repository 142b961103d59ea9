-- The places of a list.
use Rattle.std.proofs.Common.{◌≡◌, ◌≢◌, refl, sym, ap, ℕ, zero, suc, ◌<◌, List, [], ◌∷◌, ◌++◌, length, arith, inl, inr, ◌⊎◌, ⊎_elim, Some}
use Rattle.std.specs.Prelude.{slice_get, slice_set}
use Rattle.std.proofs.lemmas.Option.{same_Some, slice_get_within, slice_get-get_or}

pub get-set_same : {X : Type 0} (xs : List X) (i : ℕ) (y : X) → i < length xs → slice_get (slice_set xs i y) i ≡ Some y
get-set_same [] i y l = absurd (omega (arith, l))
get-set_same (x ∷ xs) zero y l = refl
get-set_same (x ∷ xs) (suc i) y l = get-set_same xs i y (omega (arith, l))

pub get-set_other : {X : Type 0} (xs : List X) (i j : ℕ) (y : X) → (j ≡ i → ⊥) → slice_get (slice_set xs i y) j ≡ slice_get xs j
get-set_other [] i j y d = refl
get-set_other (x ∷ xs) zero zero y d = absurd (d refl)
get-set_other (x ∷ xs) zero (suc j) y d = refl
get-set_other (x ∷ xs) (suc i) zero y d = refl
get-set_other (x ∷ xs) (suc i) (suc j) y d = get-set_other xs i j y (λ e. d (ap suc e))

-- what stands in a place once another item is set
pub get_set : {A : Type 0} (xs : List A) (i k : ℕ) (y z : A) → slice_get (slice_set xs i y) k ≡ Some z → ((k ≡ i) × (z ≡ y)) ⊎ ((k ≢ i) × (slice_get xs k ≡ Some z))
get_set [] i k y z e = absurd (grind (arith, e))
get_set (x ∷ xs) zero zero y z e = inl (refl, sym (same_Some y z e))
get_set (x ∷ xs) zero (suc k) y z e = inr ((λ q. omega (arith, q)), e)
get_set (x ∷ xs) (suc i) zero y z e = inr ((λ q. omega (arith, q)), e)
get_set (x ∷ xs) (suc i) (suc k) y z e = ⊎_elim (λ h. inl (ap suc h.0, h.1)) (λ h. inr ((λ q. h.0 (omega (arith, q))), h.1)) (get_set xs i k y z e)

-- lists of one length have the same places
pub there : {A B : Type 0} (xs : List A) (ys : List B) (k : ℕ) (y : B) → length ys ≡ length xs → slice_get ys k ≡ Some y → (x : A) × (slice_get xs k ≡ Some x)
there [] ys k y e at = absurd (omega (arith, e, slice_get_within ys k y at))
there (x ∷ xs) ys k y e at = (_, slice_get-get_or (x ∷ xs) k x (omega (arith, e, slice_get_within ys k y at)))

-- an item of a list with one more
pub get_more : {A : Type 0} (xs : List A) (y z : A) (k : ℕ) → slice_get (xs ++ y ∷ []) k ≡ Some z → ((k ≡ length xs) × (z ≡ y)) ⊎ ((k < length xs) × (slice_get xs k ≡ Some z))
get_more [] y z zero e = inl (refl, sym (same_Some y z e))
get_more [] y z (suc k) e = absurd (grind (arith, e))
get_more (x ∷ xs) y z zero e = inr (omega (arith), e)
get_more (x ∷ xs) y z (suc k) e = ⊎_elim (λ h. inl (ap suc h.0, h.1)) (λ h. inr (omega (arith, h.0), h.1)) (get_more xs y z k e)

pub set-set : {A : Type 0} (xs : List A) (i : ℕ) (y z : A) → slice_set (slice_set xs i y) i z ≡ slice_set xs i z
set-set [] i y z = refl
set-set (x ∷ xs) zero y z = refl
set-set (x ∷ xs) (suc i) y z = ap (λ l. x ∷ l) (set-set xs i y z)
