-- Numbers kept for some components: where one is found, and where it is put.
use Rattle.std.proofs.Common.{◌≡◌, ◌∙◌, ◌<◌, ◌≤◌, ℕ, suc, Bool, true, false, cond, leb, ltb, [], ◌∷◌, length, get_or, set, Option, None, Some, ap, refl, arith, inl, inr, sym}
use Rattle.std.specs.Borrow.{Bor}
use Rattle.std.specs.List.{find, position_or_len, insert}
use Rattle.std.specs.Option.{option_map, unwrap_or}
use Rattle.std.proofs.lemmas.Bool.{cases_lt}
use Rattle.std.proofs.lemmas.Bool.Decides.{nat_tests}
use Rattle.ic_base.specs.declared.messages.ComId.{ComId}
use Rattle.ic_base.specs.Programs.{same_com}
use Rattle.def_state.specs.Names.{Numbers, number_of, put_number}

found_first : (b : Bool) (x : ComId × ℕ) (o : Option (ComId × ℕ)) (other rest : ℕ) → unwrap_or (option_map (λ (y : ComId × ℕ). y.1) o) other ≡ rest
    → unwrap_or (option_map (λ (y : ComId × ℕ). y.1) (cond b (Some x) o)) other ≡ cond b x.1 rest
found_first true x o other rest e = refl
found_first false x o other rest e = e

-- a search finds the number of a component
pub number_found : (other : ℕ) (c : ComId) (xs : Numbers) → unwrap_or (option_map (λ (x : ComId × ℕ). x.1) (find (λ (x : ComId × ℕ). same_com c x.0) xs)) other ≡ number_of other xs c
number_found other c [] = refl
number_found other c (x ∷ xs) = found_first (same_com c x.0) x (find (λ (x : ComId × ℕ). same_com c x.0) xs) other (number_of other xs c) (number_found other c xs)

abbrev pub number_at : Option (Bor (ComId × ℕ)) → ℕ
number_at None = 1
number_at (Some b) = b.now.1

number_copied : (o : Option (Bor (ComId × ℕ))) → unwrap_or (option_map (λ (x : ComId × ℕ). x.1) (option_map (λ (b : Bor (ComId × ℕ)). b.now) o)) 1 ≡ number_at o
number_copied None = refl
number_copied (Some b) = refl

-- the answer of a search for a component is its number, and 1 where none is kept
pub number_sought : (c : ComId) (xs ys : Numbers) (o r : Option (Bor (ComId × ℕ))) → option_map (λ (b : Bor (ComId × ℕ)). b.now) r ≡ find (λ (x : ComId × ℕ). same_com c x.0) xs → r ≡ o → xs ≡ ys → number_at o ≡ number_of 1 ys c
number_sought c xs ys o r found is same =
    ap number_at (sym is) ∙ sym (number_copied r) ∙ ap (λ (o : Option (ComId × ℕ)). unwrap_or (option_map (λ (x : ComId × ℕ). x.1) o) 1) found ∙ number_found 1 c xs ∙ ap (λ (zs : Numbers). number_of 1 zs c) same

-- the place of a component among others in order
abbrev pub place_of : ComId → Numbers → ℕ
place_of c xs = position_or_len (λ (x : ComId × ℕ). leb c.0 x.0.0) xs

-- its place behind a component that comes before it
place_behind : (c : ComId) (x : ComId × ℕ) (xs : Numbers) → x.0.0 < c.0 → place_of c (x ∷ xs) ≡ suc (place_of c xs)
place_behind c x xs lt = let l : leb c.0 x.0.0 ≡ false = grind (arith, nat_tests) in rw l (omega arith)

place_here : (c : ComId) (x : ComId × ℕ) (xs : Numbers) → c.0 ≤ x.0.0 → place_of c (x ∷ xs) ≡ 0
place_here c x xs le = let l : leb c.0 x.0.0 ≡ true = grind (arith, nat_tests) in rw l refl

behind_put : (c : ComId) (n : ℕ) (x : ComId × ℕ) (xs : Numbers) → x.0.0 < c.0 → put_number c n (x ∷ xs) ≡ x ∷ put_number c n xs
behind_put c n x xs lt =
    let e : same_com c x.0 ≡ false = grind (arith, nat_tests) in
    let l : ltb c.0 x.0.0 ≡ false = grind (arith, nat_tests) in
    rw (e, l) refl

-- a number is put over the one that is kept at its place
pub put_over : (c : ComId) (n : ℕ) (xs : Numbers) (p : ℕ) (d : ComId × ℕ) → p ≡ place_of c xs → p < length xs → same_com c (get_or xs p d).0 ≡ true → set xs p (c, n) ≡ put_number c n xs
put_over c n [] p d is within same = absurd (omega arith)
put_over c n (x ∷ xs) p d is within same = elim (cases_lt x.0.0 c.0) [
  | inl lt ↦
      let q : p ≡ suc (place_of c xs) = is ∙ place_behind c x xs lt in
      let same' : same_com c (get_or xs (place_of c xs) d).0 ≡ true = rw q at same in
      rw (q, behind_put c n x xs lt) (ap (λ ys. x ∷ ys) (put_over c n xs (place_of c xs) d refl (omega arith) same'))
  | inr le ↦
      let q : p ≡ 0 = is ∙ place_here c x xs le in
      let same' : same_com c x.0 ≡ true = rw q at same in
      rw (q, same') refl
]

-- where another one stands, or none, it goes there
pub put_between : (c : ComId) (n : ℕ) (xs : Numbers) (p : ℕ) → p ≡ place_of c xs → ((d : ComId × ℕ) → p < length xs → same_com c (get_or xs p d).0 ≡ false) → insert xs p (c, n) ≡ put_number c n xs
put_between c n [] p is other = rw is refl
put_between c n (x ∷ xs) p is other = elim (cases_lt x.0.0 c.0) [
  | inl lt ↦
      let q : p ≡ suc (place_of c xs) = is ∙ place_behind c x xs lt in
      let other' : (d : ComId × ℕ) → suc (place_of c xs) < length (x ∷ xs) → same_com c (get_or (x ∷ xs) (suc (place_of c xs)) d).0 ≡ false = rw q at other in
      rw (q, behind_put c n x xs lt) (ap (λ ys. x ∷ ys) (put_between c n xs (place_of c xs) refl (λ d within. other' d (omega arith))))
  | inr le ↦
      let q : p ≡ 0 = is ∙ place_here c x xs le in
      let e : same_com c x.0 ≡ false = (rw q at other) x (omega arith) in
      let l : ltb c.0 x.0.0 ≡ true = grind (arith, nat_tests) in
      rw (q, e, l) refl
]

place_within : (c : ComId) (xs : Numbers) → place_of c xs ≤ length xs
place_within c [] = omega arith
place_within c (x ∷ xs) = elim (cases_lt x.0.0 c.0) [
  | inl lt ↦ omega (arith, place_behind c x xs lt, place_within c xs)
  | inr le ↦ omega (arith, place_here c x xs le)
]

abbrev PlaceIs : ComId → Numbers → ℕ → Option ℕ → Type 0
PlaceIs c xs p None = p ≡ length xs
PlaceIs c xs p (Some i) = p ≡ i

-- the answer of a search for that place
pub place_sought : (c : ComId) (xs : Numbers) (r o : Option ℕ) (p : ℕ) → r ≡ cond (ltb (place_of c xs) (length xs)) (Some (place_of c xs)) None → r ≡ o → PlaceIs c xs p o → p ≡ place_of c xs
place_sought c xs r (Some i) p found is at = elim (cases_lt (place_of c xs) (length xs)) [
  | inl lt ↦
      let l : ltb (place_of c xs) (length xs) ≡ true = grind (arith, nat_tests) in
      let e : Some (place_of c xs) ≡ Some i = sym (ap (λ b. cond b (Some (place_of c xs)) None) l) ∙ sym found ∙ is in
      cc
  | inr le ↦
      let l : ltb (place_of c xs) (length xs) ≡ false = grind (arith, nat_tests) in
      let e : None ≡ Some i = sym (ap (λ b. cond b (Some (place_of c xs)) None) l) ∙ sym found ∙ is in
      absurd cc
]
place_sought c xs r None p found is at = elim (cases_lt (place_of c xs) (length xs)) [
  | inl lt ↦
      let l : ltb (place_of c xs) (length xs) ≡ true = grind (arith, nat_tests) in
      let e : Some (place_of c xs) ≡ None = sym (ap (λ b. cond b (Some (place_of c xs)) None) l) ∙ sym found ∙ is in
      absurd cc
  | inr le ↦ omega (arith, place_within c xs)
]
