-- The places of lists.
use Rattle.std.proofs.Common.{◌≡◌, sym, ap, refl, ℕ, zero, suc, ◌<◌, ◌≤◌, List, [], ◌∷◌, length, map, arith, Option, Some, None}
use Rattle.std.specs.Prelude.{slice_get, slice_set}
use Rattle.std.specs.List.{insert, remove}

pub none-some : {A B : Type 0} (x : A) → None ≡ Some x → B
none-some x e = absurd (cc)

pub some-is : {A : Type 0} (x y : A) → ◌≡◌ {A = Option A} (Some x) (Some y) → x ≡ y
some-is x y e = cc

pub get-within : {X : Type 0} (xs : List X) (i : ℕ) (x : X) → slice_get xs i ≡ Some x → i < length xs
get-within [] i x e = none-some x e
get-within (y ∷ ys) zero x e = omega arith
get-within (y ∷ ys) (suc i) x e = omega (arith, get-within ys i x e)

pub get-there : {X : Type 0} (xs : List X) (k : ℕ) → k < length xs → (x : X) × (slice_get xs k ≡ Some x)
get-there [] k l = absurd (omega (arith, l))
get-there (x ∷ xs) zero l = (x, refl)
get-there (x ∷ xs) (suc k) l = get-there xs k (omega (arith, l))

pub none-past : {X : Type 0} (xs : List X) (k : ℕ) → length xs ≤ k → slice_get xs k ≡ None
none-past [] k l = refl
none-past (x ∷ xs) zero l = absurd (omega (arith, l))
none-past (x ∷ xs) (suc k) l = none-past xs k (omega (arith, l))

pub get-set_same : {X : Type 0} (xs : List X) (i : ℕ) (x y : X) → slice_get xs i ≡ Some x → slice_get (slice_set xs i y) i ≡ Some y
get-set_same [] i x y e = none-some x e
get-set_same (z ∷ xs) zero x y e = refl
get-set_same (z ∷ xs) (suc i) x y e = get-set_same xs i x y e

pub get-set_other : {X : Type 0} (xs : List X) (i j : ℕ) (y : X) → (j ≡ i → ⊥) → slice_get (slice_set xs i y) j ≡ slice_get xs j
get-set_other [] i j y d = refl
get-set_other (x ∷ xs) zero zero y d = absurd (d refl)
get-set_other (x ∷ xs) zero (suc j) y d = refl
get-set_other (x ∷ xs) (suc i) zero y d = refl
get-set_other (x ∷ xs) (suc i) (suc j) y d = get-set_other xs i j y (λ e. d (omega (arith, e)))

pub set-got : {X : Type 0} (xs : List X) (i : ℕ) (x : X) → slice_get xs i ≡ Some x → slice_set xs i x ≡ xs
set-got [] i x e = none-some x e
set-got (z ∷ xs) zero x e = ap (λ y. y ∷ xs) (sym (some-is z x e))
set-got (z ∷ xs) (suc i) x e = ap (λ l. z ∷ l) (set-got xs i x e)

pub map-set : {X Y : Type 0} (f : X → Y) (xs : List X) (i : ℕ) (y : X) → map f (slice_set xs i y) ≡ slice_set (map f xs) i (f y)
map-set f [] i y = refl
map-set f (x ∷ xs) zero y = refl
map-set f (x ∷ xs) (suc i) y = ap (λ l. f x ∷ l) (map-set f xs i y)

pub length-set : {X : Type 0} (xs : List X) (i : ℕ) (y : X) → length (slice_set xs i y) ≡ length xs
length-set [] i y = refl
length-set (x ∷ xs) zero y = refl
length-set (x ∷ xs) (suc i) y = let n = length-set xs i y in omega (arith, n)

-- what was taken out is put back in its place
pub put-back : {X : Type 0} (xs : List X) (i : ℕ) (y : X) → i < length xs → insert (remove xs i) i y ≡ slice_set xs i y
put-back [] i y l = absurd (omega (arith, l))
put-back (x ∷ xs) zero y l = refl
put-back (x ∷ xs) (suc i) y l = ap (λ l. x ∷ l) (put-back xs i y (omega (arith, l)))

pub no-some : {A : Type 0} (o : Option A) → ((a : A) → o ≡ Some a → ⊥) → o ≡ None
no-some None not-so = refl
no-some (Some a) not-so = absurd (not-so a refl)
