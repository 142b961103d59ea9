-- Reading the places of a list.
use Rattle.std.proofs.Common.{◌≡◌, ◌∙◌, sym, ap, subst, refl, ℕ, zero, suc, ◌+◌, ◌-◌, ◌<◌, ◌≤◌, Bool, true, false, cond, ◌⊎◌, inl, inr, List, [], ◌∷◌, ◌++◌, take, drop, length, map, get_or, arith, Some, None}
use Rattle.std.specs.Prelude.{not, nat_lt, slice_get, slice_set}
use Rattle.std.specs.List.{All, AllWithin, remove, position_or_len}
use Rattle.std.proofs.lemmas.Bool.{cases_lt, ltb-true, ltb-false}
use Rattle.std.proofs.lemmas.List.Edits.{get_or-remove_below, get_or-remove_above, length-remove}
use Rattle.std.proofs.lemmas.List.Sums.{prefix_len-le-length}

pub All-one : {X : Type 0} (P : X → Type 0) (x : X) → P x → All P (x ∷ [])
All-one P x h zero d b = h
All-one P x h (suc k) d b = absurd (omega arith)

-- what a read of a place gives
pub get-read : {X : Type 0} (xs : List X) (i : ℕ) (x : X) → i < length xs → x ≡ get_or xs i x → slice_get xs i ≡ Some x
get-read [] i x l e = absurd (omega arith)
get-read (y ∷ ys) zero x l e = ap (λ z. Some z) (sym e)
get-read (y ∷ ys) (suc i) x l e = get-read ys i x (omega arith) e

pub got-within : {X : Type 0} (xs : List X) (i : ℕ) (x : X) → slice_get xs i ≡ Some x → i < length xs
got-within [] i x h = absurd (cc)
got-within (y ∷ ys) zero x h = omega arith
got-within (y ∷ ys) (suc i) x h = omega (arith, got-within ys i x h)

pub got-read : {X : Type 0} (xs : List X) (i : ℕ) (x : X) → slice_get xs i ≡ Some x → (d : X) → get_or xs i d ≡ x
got-read [] i x h d = absurd (cc)
got-read (y ∷ ys) zero x h d = cc
got-read (y ∷ ys) (suc i) x h d = got-read ys i x h d

pub nothing-at : {X : Type 0} (xs : List X) (i : ℕ) → slice_get xs i ≡ None → length xs ≤ i
nothing-at [] i h = omega arith
nothing-at (x ∷ xs) zero h = absurd (cc)
nothing-at (x ∷ xs) (suc i) h = omega (arith, nothing-at xs i h)

-- the first place that passes lies past the end: none does
pub all-passed : {X : Type 0} (p : X → Bool) (xs : List X) (i : ℕ) → i ≡ position_or_len p xs → length xs ≤ i → position_or_len p xs ≡ length xs
all-passed p xs i e l = omega (arith, prefix_len-le-length (λ x. not (p x)) xs)

pub map-remove : {X Y : Type 0} (f : X → Y) (xs : List X) (i : ℕ) → map f (remove xs i) ≡ remove (map f xs) i
map-remove f [] zero = refl
map-remove f [] (suc i) = refl
map-remove f (x ∷ xs) zero = refl
map-remove f (x ∷ xs) (suc i) = ap (λ l. f x ∷ l) (map-remove f xs i)

-- what holds of the places below n holds of those that are left of them
pub front-remove : {X : Type 0} (P : X → Type 0) (xs : List X) (n i : ℕ) → i < length xs → AllWithin P xs 0 n → AllWithin P (remove xs i) 0 (cond (nat_lt i n) (n - 1) n)
front-remove P xs n i l h k d a b = by (nat_lt i n) refl b (cases_lt k i)
  where
    by : (t : Bool) → nat_lt i n ≡ t → k < cond t (n - 1) n → (k < i) ⊎ (i ≤ k) → P (get_or (remove xs i) k d)
    by true e b (inl below) = let in_front = ltb-true i n e in subst P (sym (get_or-remove_below xs i d k below l)) (h k d a (omega arith))
    by true e b (inr above) = subst P (sym (get_or-remove_above xs i d k above l)) (h (k + 1) d (omega arith) (omega arith))
    by false e b (inl below) = subst P (sym (get_or-remove_below xs i d k below l)) (h k d a b)
    by false e b (inr above) = let behind = ltb-false i n e in absurd (omega arith)

pub all-remove : {X : Type 0} (P : X → Type 0) (xs : List X) (i : ℕ) → i < length xs → All P xs → All P (remove xs i)
all-remove P xs i l h k d b = by (cases_lt k i)
  where
    by : (k < i) ⊎ (i ≤ k) → P (get_or (remove xs i) k d)
    by (inl below) = subst P (sym (get_or-remove_below xs i d k below l)) (h k d (omega arith))
    by (inr above) = subst P (sym (get_or-remove_above xs i d k above l)) (h (k + 1) d (omega (arith, length-remove xs i l)))

pub get-past : {X : Type 0} (xs : List X) (i : ℕ) → length xs ≤ i → slice_get xs i ≡ None
get-past [] i l = refl
get-past (x ∷ xs) zero l = absurd (omega arith)
get-past (x ∷ xs) (suc i) l = get-past xs i (omega arith)

-- one place more is mapped
pub map-next : {X : Type 0} (f : X → X) (xs : List X) (i n : ℕ) (x : X) → i < length xs → n ≡ i + 1 → x ≡ get_or (map f (take i xs) ++ drop i xs) i x → slice_set (map f (take i xs) ++ drop i xs) i (f x) ≡ map f (take n xs) ++ drop n xs
map-next f [] i n x l e read = absurd (omega arith)
map-next f (y ∷ ys) zero zero x l e read = absurd (omega arith)
map-next f (y ∷ ys) zero (suc n) x l e read = let none : n ≡ 0 = omega arith in ap (λ z. f z ∷ ys) read ∙ ap (λ m. f y ∷ (map f (take m ys) ++ drop m ys)) (sym none)
map-next f (y ∷ ys) (suc i) zero x l e read = absurd (omega arith)
map-next f (y ∷ ys) (suc i) (suc n) x l e read = ap (λ r. f y ∷ r) (map-next f ys i n x (omega arith) (omega arith) read)
