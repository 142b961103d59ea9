-- Searches, filters and changes at one place.
use Rattle.std.proofs.Common.{◌≡◌, ◌≢◌, ◌∙◌, ◌<◌, ◌+◌, ℕ, All, zero, suc, Bool, true, false, cond, not, ltb, List, [], ◌∷◌, length, get_or, set, map, filter, Option, None, Some, slice_get, ap, refl, sym, arith, inl, inr}
use Rattle.std.specs.Prelude.{◌&&◌}
use Rattle.std.specs.List.{find, position_or_len}
use Rattle.std.specs.Option.{option_and_then}
use Rattle.std.proofs.lemmas.Bool.{cases_lt, cases_Bool}
use Rattle.std.proofs.lemmas.List.Elements.{All-nil, All-cons, All-head, All-tail}
use Rattle.std.proofs.lemmas.Bool.Decides.{nat_tests}

module _ {X : Type 0} (p q : X → Bool) where
  first_kept : (a b : Bool) (x : X) (xs : List X) → find p (cond a (x ∷ xs) xs) ≡ cond (a && p x) (Some x) (find p xs)
  first_kept true b x xs = refl
  first_kept false b x xs = refl

  -- a search among what passes a filter
  pub find-filter : (xs : List X) → find p (filter q xs) ≡ find (λ x. q x && p x) xs
  find-filter [] = refl
  find-filter (x ∷ xs) = first_kept (q x) true x (filter q xs) ∙ ap (cond (q x && p x) (Some x)) (find-filter xs)

module _ {X : Type 0} (p : X → Bool) where
  abbrev pub place_found : List X → Option ℕ
  place_found xs = cond (ltb (position_or_len p xs) (length xs)) (Some (position_or_len p xs)) None

  found_at : (b : Bool) (x : X) (xs : List X) (n : ℕ) → option_and_then (slice_get xs) (cond (ltb n (length xs)) (Some n) None) ≡ find p xs
      → option_and_then (slice_get (x ∷ xs)) (cond (ltb (cond (not b) (1 + n) 0) (length (x ∷ xs))) (Some (cond (not b) (1 + n) 0)) None) ≡ cond b (Some x) (find p xs)
  found_at true x xs n rest = let l : ltb 0 (length (x ∷ xs)) ≡ true = grind (arith, nat_tests) in rw l refl
  found_at false x xs n rest =
      let up : 1 + n ≡ suc n = omega arith in
      elim (cases_lt n (length xs)) [
        | inl lt ↦
            let l : ltb (suc n) (length (x ∷ xs)) ≡ true = grind (arith, nat_tests) in
            let m : ltb n (length xs) ≡ true = grind (arith, nat_tests) in
            rw (up, l) (rw m at rest)
        | inr le ↦
            let l : ltb (suc n) (length (x ∷ xs)) ≡ false = grind (arith, nat_tests) in
            let m : ltb n (length xs) ≡ false = grind (arith, nat_tests) in
            rw (up, l) (rw m at rest)
      ]

  -- what stands at the first place that passes
  pub position_finds : (xs : List X) → option_and_then (slice_get xs) (place_found xs) ≡ find p xs
  position_finds [] = refl
  position_finds (x ∷ xs) = found_at (p x) x xs (position_or_len p xs) (position_finds xs)

  -- a change where no item passes
  pub map_none : (xs : List X) (y : X) → All (λ x. p x ≡ false) xs → map (λ x. cond (p x) y x) xs ≡ xs
  map_none [] y none = refl
  map_none (x ∷ xs) y none =
      let here = All-head (λ x. p x ≡ false) x xs none in
      let rest = map_none xs y (All-tail (λ x. p x ≡ false) x xs none) in
      ap (λ b. cond b y x ∷ map (λ x. cond (p x) y x) xs) here ∙ ap (λ ys. x ∷ ys) rest

  -- a change at the one place that passes
  pub set_where : (xs : List X) (i : ℕ) (y : X) → i < length xs → ((d : X) → p (get_or xs i d) ≡ true) → ((k : ℕ) (d : X) → k < length xs → k ≢ i → p (get_or xs k d) ≡ false) → set xs i y ≡ map (λ x. cond (p x) y x) xs
  set_where [] i y within here others = absurd (omega arith)
  set_where (x ∷ xs) zero y within here others =
      sym (ap (λ b. cond b y x ∷ map (λ x. cond (p x) y x) xs) (here x) ∙ ap (λ ys. y ∷ ys) (map_none xs y (λ k d in'. others (suc k) d (omega arith) (λ e. omega arith))))
  set_where (x ∷ xs) (suc i) y within here others =
      let rest = set_where xs i y (omega arith) here (λ k d in' differs. others (suc k) d (omega arith) (λ e. differs (omega arith))) in
      sym (ap (λ b. cond b y x ∷ map (λ x. cond (p x) y x) xs) (others 0 x (omega arith) (λ e. omega arith)) ∙ ap (λ ys. x ∷ ys) (sym rest))

-- one that isn't found is not there
pub none_found : {X : Type 0} (p : X → Bool) (xs : List X) → find p xs ≡ None → All (λ x. p x ≡ false) xs
none_found p [] none = All-nil (λ x. p x ≡ false)
none_found p (x ∷ xs) none = elim (cases_Bool (p x)) [
  | inl passes ↦ absurd (let e : cond (p x) (Some x) (find p xs) ≡ None = none in let f : Some x ≡ None = rw passes at e in cc)
  | inr fails ↦ All-cons (λ x. p x ≡ false) x xs fails (none_found p xs (let e : cond (p x) (Some x) (find p xs) ≡ None = none in rw fails at e))
]
