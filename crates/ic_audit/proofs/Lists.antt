-- Places in lists.
use Rattle.std.proofs.Common.{◌≡◌, refl, ap, sym, ◌∙◌, ℕ, zero, suc, ◌+◌, ◌<◌, List, [], ◌∷◌, length, get_or, drop, Some, arith}
use Rattle.std.specs.Prelude.{slice_get, slice_set}
use Rattle.std.specs.List.{insert, remove}

module _ {X : Type 0} where
  pub same_item : (a b : X) → Some a ≡ Some b → a ≡ b
  same_item a b e = cc

  pub get_there : (xs : List X) (i : ℕ) (x : X) → i < length xs → x ≡ get_or xs i x → slice_get xs i ≡ Some x
  get_there [] i x h e = absurd (omega (arith, h))
  get_there (y ∷ ys) zero x h e = ap Some (sym e)
  get_there (y ∷ ys) (suc i) x h e = get_there ys i x (omega (arith, h)) e

  -- an item that is there
  pub some_there : (xs : List X) (i : ℕ) → i < length xs → (x : X) × (slice_get xs i ≡ Some x)
  some_there [] i h = absurd (omega (arith, h))
  some_there (y ∷ ys) zero h = (y, refl)
  some_there (y ∷ ys) (suc i) h = some_there ys i (omega (arith, h))

  pub set_itself : (xs : List X) (i : ℕ) (x : X) → slice_get xs i ≡ Some x → xs ≡ slice_set xs i x
  set_itself [] i x h = absurd (cc)
  set_itself (y ∷ ys) zero x h = ap (λ z. z ∷ ys) (same_item y x h)
  set_itself (y ∷ ys) (suc i) x h = ap (λ zs. y ∷ zs) (set_itself ys i x h)

  pub set_there : (xs : List X) (i : ℕ) (x y : X) → slice_get xs i ≡ Some x → slice_get (slice_set xs i y) i ≡ Some y
  set_there [] i x y h = absurd (cc)
  set_there (z ∷ zs) zero x y h = refl
  set_there (z ∷ zs) (suc i) x y h = set_there zs i x y h

  pub set_other : (xs : List X) (i j : ℕ) (y : X) → (j ≡ i → ⊥) → slice_get (slice_set xs i y) j ≡ slice_get xs j
  set_other [] i j y h = refl
  set_other (z ∷ zs) zero zero y h = absurd (h refl)
  set_other (z ∷ zs) zero (suc j) y h = refl
  set_other (z ∷ zs) (suc i) zero y h = refl
  set_other (z ∷ zs) (suc i) (suc j) y h = set_other zs i j y (λ e. h (ap suc e))

  pub put_back : (xs : List X) (i : ℕ) (y : X) → i < length xs → insert (remove xs i) i y ≡ slice_set xs i y
  put_back [] i y h = absurd (omega (arith, h))
  put_back (x ∷ xs) zero y h = refl
  put_back (x ∷ xs) (suc i) y h = ap (λ zs. x ∷ zs) (put_back xs i y (omega (arith, h)))

  drop_suc : (xs : List X) (i : ℕ) (x : X) → slice_get xs i ≡ Some x → drop i xs ≡ x ∷ drop (suc i) xs
  drop_suc [] i x h = absurd (cc)
  drop_suc (y ∷ ys) zero x h = ap (λ z. z ∷ ys) (same_item y x h)
  drop_suc (y ∷ ys) (suc i) x h = drop_suc ys i x h

  pub drop_there : (xs : List X) (i : ℕ) (x : X) → slice_get xs i ≡ Some x → drop i xs ≡ x ∷ drop (i + 1) xs
  drop_there xs i x h = let on : suc i ≡ i + 1 = omega arith in drop_suc xs i x h ∙ ap (λ n. x ∷ drop n xs) on
