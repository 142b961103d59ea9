-- Lists in which one place alone passes a test, or none does.
use Rattle.std.proofs.Common.{◌≡◌, ◌∙◌, sym, ap, refl, ℕ, zero, suc, Bool, true, false, cond, List, [], ◌∷◌, map, Option, Some, None, arith}
use Rattle.std.specs.Prelude.{◌&&◌, ◌||◌, not, slice_get, slice_set, filter, find}
use Rattle.std.specs.List.{remove, list_any}
use Rattle.std.proofs.lemmas.Bool.{false_from_ne_true, or_parts}
use Rattle.def_state.specs.Names.{Identity, same_identity}
use Rattle.ic_index.specs.Alone.{StandsAlone}
use Rattle.ic_index.proofs.Identities.{same-refl, same-is}

no-suc : (i : ℕ) → suc i ≡ 0 → ⊥
no-suc i e = omega arith

pub none-passes : {X : Type 0} (p : X → Bool) (xs : List X) → ((j : ℕ) (y : X) → slice_get xs j ≡ Some y → p y ≡ true → ⊥) → list_any p xs ≡ false
none-passes p [] h = refl
none-passes p (x ∷ xs) h =
    let here = false_from_ne_true (p x) (λ e. h 0 x refl e) in
    ap (λ b. b || list_any p xs) here ∙ none-passes p xs (λ j y s e. h (suc j) y s e)

module _ {X : Type 0} (p : X → Bool) where
  first-is : (x : X) (y : X) (ys : List X) → StandsAlone p (y ∷ ys) 0 x → y ≡ x
  first-is x y ys h = let s = h.there in cc

  behind-first : (x : X) (y : X) (ys : List X) → StandsAlone p (y ∷ ys) 0 x → list_any p ys ≡ false
  behind-first x y ys h = none-passes p ys (λ j z s e. no-suc j (sym (h.alone (suc j) z s e)))

  before : (x : X) (y : X) (ys : List X) (i : ℕ) → StandsAlone p (y ∷ ys) (suc i) x → p y ≡ false
  before x y ys i h = false_from_ne_true (p y) (λ e. no-suc i (h.alone 0 y refl e))

  rest : (x : X) (y : X) (ys : List X) (i : ℕ) → StandsAlone p (y ∷ ys) (suc i) x → StandsAlone p ys i x
  rest x y ys i h = record { there = h.there; passes = h.passes; alone = λ j z s e. omega (arith, h.alone (suc j) z s e) }

  -- none passes
  pub none-find : (xs : List X) → list_any p xs ≡ false → find p xs ≡ None
  none-find [] h = refl
  none-find (x ∷ xs) h = let parts = or_parts (p x) (list_any p xs) h in ap (λ b. cond b (Some x) (find p xs)) parts.0 ∙ none-find xs parts.1

  pub none-kept : (xs : List X) → list_any p xs ≡ false → filter (λ y. not (p y)) xs ≡ xs
  none-kept [] h = refl
  none-kept (x ∷ xs) h =
      let parts = or_parts (p x) (list_any p xs) h in
      ap (λ b. cond (not b) (x ∷ filter (λ y. not (p y)) xs) (filter (λ y. not (p y)) xs)) parts.0 ∙ ap (λ l. x ∷ l) (none-kept xs parts.1)

  pub none-map : (g : X → X) → ((y : X) → p y ≡ false → g y ≡ y) → (xs : List X) → list_any p xs ≡ false → map g xs ≡ xs
  none-map g fixes [] h = refl
  none-map g fixes (x ∷ xs) h = let parts = or_parts (p x) (list_any p xs) h in ap (λ z. z ∷ map g xs) (fixes x parts.0) ∙ ap (λ l. x ∷ l) (none-map g fixes xs parts.1)

  pub none-both : (q : X → Bool) (xs : List X) → list_any p xs ≡ false → list_any (λ y. p y && q y) xs ≡ false
  none-both q [] h = refl
  none-both q (x ∷ xs) h = let parts = or_parts (p x) (list_any p xs) h in ap (λ b. (b && q x) || list_any (λ y. p y && q y) xs) parts.0 ∙ none-both q xs parts.1

  -- one passes alone
  pub alone-any : (xs : List X) (i : ℕ) (x : X) → StandsAlone p xs i x → list_any p xs ≡ true
  alone-any [] i x h = let s = h.there in absurd (cc)
  alone-any (y ∷ ys) zero x h = ap (λ b. b || list_any p ys) (ap p (first-is x y ys h) ∙ h.passes)
  alone-any (y ∷ ys) (suc i) x h = ap (λ b. b || list_any p ys) (before x y ys i h) ∙ alone-any ys i x (rest x y ys i h)

  pub alone-find : (xs : List X) (i : ℕ) (x : X) → StandsAlone p xs i x → find p xs ≡ Some x
  alone-find [] i x h = let s = h.there in absurd (cc)
  alone-find (y ∷ ys) zero x h = ap (λ b. cond b (Some y) (find p ys)) (ap p (first-is x y ys h) ∙ h.passes) ∙ ap (λ z. Some z) (first-is x y ys h)
  alone-find (y ∷ ys) (suc i) x h = ap (λ b. cond b (Some y) (find p ys)) (before x y ys i h) ∙ alone-find ys i x (rest x y ys i h)

  pub alone-gone : (xs : List X) (i : ℕ) (x : X) → StandsAlone p xs i x → filter (λ y. not (p y)) xs ≡ remove xs i
  alone-gone [] i x h = let s = h.there in absurd (cc)
  alone-gone (y ∷ ys) zero x h =
      ap (λ b. cond (not b) (y ∷ filter (λ y. not (p y)) ys) (filter (λ y. not (p y)) ys)) (ap p (first-is x y ys h) ∙ h.passes)
      ∙ none-kept ys (behind-first x y ys h)
  alone-gone (y ∷ ys) (suc i) x h =
      ap (λ b. cond (not b) (y ∷ filter (λ y. not (p y)) ys) (filter (λ y. not (p y)) ys)) (before x y ys i h)
      ∙ ap (λ l. y ∷ l) (alone-gone ys i x (rest x y ys i h))

  pub alone-map : (g : X → X) → ((y : X) → p y ≡ false → g y ≡ y) → (xs : List X) (i : ℕ) (x : X) → StandsAlone p xs i x → map g xs ≡ slice_set xs i (g x)
  alone-map g fixes [] i x h = let s = h.there in absurd (cc)
  alone-map g fixes (y ∷ ys) zero x h = ap (λ z. g z ∷ map g ys) (first-is x y ys h) ∙ ap (λ l. g x ∷ l) (none-map g fixes ys (behind-first x y ys h))
  alone-map g fixes (y ∷ ys) (suc i) x h = ap (λ z. z ∷ map g ys) (fixes y (before x y ys i h)) ∙ ap (λ l. y ∷ l) (alone-map g fixes ys i x (rest x y ys i h))

  pub alone-both : (q : X → Bool) (xs : List X) (i : ℕ) (x : X) → StandsAlone p xs i x → list_any (λ y. p y && q y) xs ≡ q x
  alone-both q [] i x h = let s = h.there in absurd (cc)
  alone-both q (y ∷ ys) zero x h =
      ap (λ z. (p z && q z) || list_any (λ y. p y && q y) ys) (first-is x y ys h)
      ∙ ap (λ b. (b && q x) || list_any (λ y. p y && q y) ys) h.passes
      ∙ ap (λ b. q x || b) (none-both q ys (behind-first x y ys h))
      ∙ or-false (q x)
    where
      or-false : (b : Bool) → (b || false) ≡ b
      or-false true = refl
      or-false false = refl
  alone-both q (y ∷ ys) (suc i) x h = ap (λ b. (b && q y) || list_any (λ y. p y && q y) ys) (before x y ys i h) ∙ alone-both q ys i x (rest x y ys i h)

  pub none-find_both : (q : X → Bool) (xs : List X) → list_any p xs ≡ false → find (λ y. p y && q y) xs ≡ None
  none-find_both q [] h = refl
  none-find_both q (x ∷ xs) h = let parts = or_parts (p x) (list_any p xs) h in ap (λ b. cond (b && q x) (Some x) (find (λ y. p y && q y) xs)) parts.0 ∙ none-find_both q xs parts.1

  pub alone-find_both : (q : X → Bool) (xs : List X) (i : ℕ) (x : X) → StandsAlone p xs i x → find (λ y. p y && q y) xs ≡ cond (q x) (Some x) None
  alone-find_both q [] i x h = let s = h.there in absurd (cc)
  alone-find_both q (y ∷ ys) zero x h =
      ap (λ z. cond (p z && q z) (Some z) (find (λ y. p y && q y) ys)) (first-is x y ys h)
      ∙ ap (λ b. cond (b && q x) (Some x) (find (λ y. p y && q y) ys)) h.passes
      ∙ ap (λ o. cond (q x) (Some x) o) (none-find_both q ys (behind-first x y ys h))
  alone-find_both q (y ∷ ys) (suc i) x h = ap (λ b. cond (b && q y) (Some y) (find (λ y. p y && q y) ys)) (before x y ys i h) ∙ alone-find_both q ys i x (rest x y ys i h)

-- found by its name, once
module _ {X : Type 0} (name : X → Identity) where
  named-at : (xs : List X) (j : ℕ) (y : X) (v : Identity) → slice_get xs j ≡ Some y → same_identity v (name y) ≡ true → slice_get (map name xs) j ≡ Some v
  named-at [] j y v s e = absurd (cc)
  named-at (x ∷ xs) zero y v s e = let same : x ≡ y = cc in ap (λ z. Some (name z)) same ∙ ap (λ u. Some u) (sym (same-is v (name y) e))
  named-at (x ∷ xs) (suc j) y v s e = named-at xs j y v s e

  name-at : (xs : List X) (j : ℕ) (y : X) (v : Identity) → slice_get xs j ≡ Some y → slice_get (map name xs) j ≡ Some v → name y ≡ v
  name-at [] j y v s e = absurd (cc)
  name-at (x ∷ xs) zero y v s e = let same : x ≡ y = cc in let named : name x ≡ v = cc in ap name (sym same) ∙ named
  name-at (x ∷ xs) (suc j) y v s e = name-at xs j y v s e

  pub alone-by_name : (xs : List X) (v : Identity) (i : ℕ) (x : X) → slice_get (map name xs) i ≡ Some v → ((j : ℕ) → slice_get (map name xs) j ≡ Some v → Some i ≡ Some j) → slice_get xs i ≡ Some x → StandsAlone (λ y. same_identity v (name y)) xs i x
  alone-by_name xs v i x found once s = record {
    there = s;
    passes = ap (same_identity v) (name-at xs i x v s found) ∙ same-refl v;
    alone = λ j y t e. some-is i j (once j (named-at xs j y v t e));
  }
    where
      some-is : (a b : ℕ) → Some a ≡ Some b → a ≡ b
      some-is a b e = cc

  pub none-by_name : (xs : List X) (v : Identity) (o : Option ℕ) → o ≡ None → ((j : ℕ) → slice_get (map name xs) j ≡ Some v → o ≡ Some j) → list_any (λ y. same_identity v (name y)) xs ≡ false
  none-by_name xs v o none once = none-passes (λ y. same_identity v (name y)) xs (λ j y s e. none-some j (sym none ∙ once j (named-at xs j y v s e)))
    where
      none-some : (j : ℕ) → None ≡ Some j → ⊥
      none-some j e = cc
