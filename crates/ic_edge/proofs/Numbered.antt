-- Lists whose numbers rise, and the one item that has a number.
use Rattle.std.proofs.Common.{◌≡◌, ◌≢◌, ◌==◌, ◌<◌, ◌≤◌, ℕ, zero, suc, Bool, true, false, cond, not, List, [], ◌∷◌, length, get_or, filter, Err, ap, sym, refl, ◌∙◌, inl, inr, arith, All}
use Rattle.std.specs.List.{AllPairs, HoldsAt, remove, list_any}
use Rattle.std.specs.List.Sorted.{IsBinarySearchResult, IsNonDecreasingBy}
use Rattle.std.specs.Ordering.{nat_cmp, ordering_index}
use Rattle.std.specs.declared.cmp.Ordering.TheVariants.{Equal}
use Rattle.std.proofs.lemmas.Cmp.{ranked}
use Rattle.std.proofs.lemmas.Bool.{cases_lt}
use Rattle.std.proofs.lemmas.Bool.Decides.{nat_tests}
use Rattle.std.proofs.lemmas.List.Elements.{All-head, All-tail}
use Rattle.std.proofs.lemmas.List.Folds.{list_any_at, list_any_none}

module _ {X : Type 0} (p : X → Bool) where
  -- a filter that every item passes
  pub filter_all : (xs : List X) → All (λ x. p x ≡ true) xs → filter p xs ≡ xs
  filter_all [] h = refl
  filter_all (x ∷ xs) h =
      let here = All-head (λ x. p x ≡ true) x xs h in
      let rest = filter_all xs (All-tail (λ x. p x ≡ true) x xs h) in
      ap (λ b. cond b (x ∷ filter p xs) (filter p xs)) here ∙ ap (λ ys. x ∷ ys) rest

  -- a filter that every item but one passes
  pub filter_but_one : (xs : List X) (i : ℕ) → i < length xs → ((d : X) → p (get_or xs i d) ≡ false) → ((k : ℕ) (d : X) → k < length xs → k ≢ i → p (get_or xs k d) ≡ true) → filter p xs ≡ remove xs i
  filter_but_one [] i lt here others = absurd (omega arith)
  filter_but_one (x ∷ xs) zero lt here others =
      ap (λ b. cond b (x ∷ filter p xs) (filter p xs)) (here x) ∙ filter_all xs (λ k d within. others (suc k) d (omega arith) (λ e. omega arith))
  filter_but_one (x ∷ xs) (suc i) lt here others =
      let rest = filter_but_one xs i (omega arith) here (λ k d within differs. others (suc k) d (omega arith) (λ e. differs (omega arith))) in
      ap (λ b. cond b (x ∷ filter p xs) (filter p xs)) (others 0 x (omega arith) (λ e. omega arith)) ∙ ap (λ ys. x ∷ ys) rest

  any_at : (xs : List X) (i : ℕ) → i < length xs → ((d : X) → p (get_or xs i d) ≡ true) → list_any p xs ≡ true
  any_at [] i lt here = absurd (omega arith)
  any_at (x ∷ xs) i lt here = list_any_at p (x ∷ xs) i x lt (here x)

module _ {X : Type 0} (n : X → ℕ) (xs : List X) (rising : AllPairs (λ x y. n x < n y) xs) (k : ℕ) where
  -- the comparisons with a number rise along the list
  comparisons_rise : IsNonDecreasingBy (λ x. ordering_index (nat_cmp (n x) k)) xs
  comparisons_rise i j d le within =
      let numbers_rise : n (get_or xs i d) ≤ n (get_or xs j d) = grind (arith, rising i j d, λ (same : i ≡ j). ap (λ i. n (get_or xs i d)) same) in
      grind (arith, nat_tests)

  none_there : (i : ℕ) → IsBinarySearchResult (λ x. nat_cmp (n x) k) xs (Err i) → (j : ℕ) (d : X) → j < length xs → (n (get_or xs j d) == k) ≡ false
  none_there i parted j d within =
      let before : j < i → n (get_or xs j d) < k = λ lt. ranked _ k _ (sym ((parted comparisons_rise).0 j d (omega arith) lt)) in
      let behind : i ≤ j → k < n (get_or xs j d) = λ le. ranked _ k _ (sym ((parted comparisons_rise).1 j d le within)) in
      elim (cases_lt j i) [
        | inl lt ↦ let b = before lt in grind (arith, nat_tests)
        | inr le ↦ let b = behind le in grind (arith, nat_tests)
      ]

  -- where a search finds a gap, no item has the number
  pub found_none : (i : ℕ) → IsBinarySearchResult (λ x. nat_cmp (n x) k) xs (Err i) → (list_any (λ x. n x == k) xs ≡ false) × (filter (λ x. not (n x == k)) xs ≡ xs)
  found_none i parted = (
    list_any_none (λ x. n x == k) xs (none_there i parted),
    filter_all (λ x. not (n x == k)) xs (λ j d within. ap not (none_there i parted j d within)),
  )

  -- the item at a place where a search finds the number is the only one that has it
  pub found_alone : (i : ℕ) → i < length xs → HoldsAt (λ x. nat_cmp (n x) k ≡ Equal) xs i → (list_any (λ x. n x == k) xs ≡ true) × (filter (λ x. not (n x == k)) xs ≡ remove xs i)
  found_alone i within found =
      let here : (d : X) → n (get_or xs i d) ≡ k = λ d. ranked _ k _ (sym (found d)) in (
        any_at (λ x. n x == k) xs i within (λ d. let h = here d in grind (arith, nat_tests)),
        filter_but_one (λ x. not (n x == k)) xs i within (λ d. let h = here d in grind (arith, nat_tests))
            (λ j d in' differs. let h = here d in let up = rising i j d in let down = rising j i d in let other : n (get_or xs j d) ≢ k = grind arith in grind (arith, nat_tests)),
      )
