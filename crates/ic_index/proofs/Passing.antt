-- How many elements of a list pass a test.
use Rattle.std.proofs.Common.{◌≡◌, ap, refl, ℕ, zero, suc, ◌+◌, ◌≤◌, Bool, true, false, cond, List, [], ◌∷◌, ◌++◌, length, length-append, map, arith}
use Rattle.std.specs.Prelude.{filter, not}
use Rattle.std.specs.List.{AllWithin}
use Rattle.std.proofs.lemmas.List.{length-map}
use Rattle.std.proofs.lemmas.List.Elements.{filter-append}
use Rattle.std.proofs.lemmas.List.Filters.{length-filter_both}

-- no more than there are
pub passing-few : {A : Type 0} (test : A → Bool) (xs : List A) → length (filter test xs) ≤ length xs
passing-few test xs = omega (arith, length-filter_both test (λ x. not (test x)) (λ x. refl) xs)

-- at most those from a place on, where none before it does
pub passing-behind : {A B : Type 0} (f : A → B) (test : B → Bool) (xs : List A) (i : ℕ) → i ≤ length xs → AllWithin (λ x. test (f x) ≡ false) xs 0 i → length (filter test (map f xs)) + i ≤ length xs
passing-behind f test [] i within none = omega arith
passing-behind f test (x ∷ xs) zero within none = omega (arith, passing-few test (map f (x ∷ xs)), length-map xs f)
passing-behind f test (x ∷ xs) (suc i) within none =
    by (test (f x)) (none 0 x (omega arith) (omega arith)) (passing-behind f test xs i (omega arith) (λ k d low high. none (suc k) d (omega arith) (omega arith)))
  where
    by : (b : Bool) → b ≡ false → length (filter test (map f xs)) + i ≤ length xs → length (cond b (f x ∷ filter test (map f xs)) (filter test (map f xs))) + suc i ≤ suc (length xs)
    by true is rest = absurd (cc)
    by false is rest = omega (arith, rest)

-- no more than pass a test that each of them passes
pub passing-fewer : {A : Type 0} (test weaker : A → Bool) → ((x : A) → test x ≡ true → weaker x ≡ true) → (xs : List A) → length (filter test xs) ≤ length (filter weaker xs)
passing-fewer test weaker gives [] = omega arith
passing-fewer test weaker gives (x ∷ xs) = by (test x) (weaker x) (gives x) (passing-fewer test weaker gives xs)
  where
    by : (a b : Bool) → (a ≡ true → b ≡ true) → length (filter test xs) ≤ length (filter weaker xs) → length (cond a (x ∷ filter test xs) (filter test xs)) ≤ length (cond b (x ∷ filter weaker xs) (filter weaker xs))
    by true true h rest = omega (arith, rest)
    by true false h rest = absurd (cc (h refl))
    by false true h rest = omega (arith, rest)
    by false false h rest = rest

-- no more than before where some are left out
pub passing-left : {A : Type 0} (test kept : A → Bool) (xs : List A) → length (filter test (filter kept xs)) ≤ length (filter test xs)
passing-left test kept [] = omega arith
passing-left test kept (x ∷ xs) = by (kept x) (test x) refl (passing-left test kept xs)
  where
    by : (k t : Bool) → test x ≡ t → length (filter test (filter kept xs)) ≤ length (filter test xs) → length (filter test (cond k (x ∷ filter kept xs) (filter kept xs))) ≤ length (cond t (x ∷ filter test xs) (filter test xs))
    by true true is rest = omega (arith, rest, ap (λ b. length (cond b (x ∷ filter test (filter kept xs)) (filter test (filter kept xs)))) is)
    by true false is rest = omega (arith, rest, ap (λ b. length (cond b (x ∷ filter test (filter kept xs)) (filter test (filter kept xs)))) is)
    by false true is rest = omega (arith, rest)
    by false false is rest = rest

-- as many as before where each is changed into one that passes exactly where it did
pub passing-same : {A : Type 0} (f : A → A) (test : A → Bool) → ((x : A) → test (f x) ≡ test x) → (xs : List A) → length (filter test (map f xs)) ≡ length (filter test xs)
passing-same f test same [] = refl
passing-same f test same (x ∷ xs) = by (test (f x)) (test x) (same x) (passing-same f test same xs)
  where
    by : (a b : Bool) → a ≡ b → length (filter test (map f xs)) ≡ length (filter test xs) → length (cond a (f x ∷ filter test (map f xs)) (filter test (map f xs))) ≡ length (cond b (x ∷ filter test xs) (filter test xs))
    by true true e rest = ap suc rest
    by true false e rest = absurd (cc)
    by false true e rest = absurd (cc)
    by false false e rest = rest

-- one more at most, behind one element more
pub passing-more : {A : Type 0} (test : A → Bool) (xs : List A) (x : A) → length (filter test (xs ++ x ∷ [])) ≤ length (filter test xs) + 1
passing-more test xs x = omega (arith, ap length (filter-append test xs (x ∷ [])), length-append (filter test xs) (filter test (x ∷ [])), passing-few test (x ∷ []))
