-- Names that stand twice in a list.
use Rattle.std.proofs.Common.{◌≡◌, ◌++◌, ◌∷◌, [], ◌∙◌, ℕ, List, Bool, true, false, drop, ap, sym, refl}
use Rattle.std.specs.Prelude.{◌||◌, not, bytes_eq, if◌then◌else◌}
use Rattle.std.specs.Borrow.{Bor}
use Rattle.std.specs.List.{list_any}
use Rattle.std.proofs.lemmas.Cmp.{nat_list_eq_equiv}
use Rattle.std.proofs.lemmas.List.{map-append}
use Rattle.std.proofs.lemmas.List.Folds.{list_any-append}
use Rattle.indexmap.specs.IndexSet.{insert_key}
use Rattle.def_syntax.specs.Scope.{is_in, has_twice}
use Rattle.ic_items.specs.Tables.{slices_seen}
use Rattle.ic_items.proofs.Tables.{list_any-map}

regroup : (a b x y : Bool) → ((a || (b || false)) || (x || y)) ≡ ((a || x) || (b || y))
regroup true b x y = refl
regroup false true true y = refl
regroup false true false y = refl
regroup false false x y = refl

or_assoc : (a b c : Bool) → (a || (b || c)) ≡ ((a || b) || c)
or_assoc true b c = refl
or_assoc false b c = refl

-- a name of the rest stands among those before, or twice in the rest
abbrev pub told : List (List ℕ) → List (List ℕ) → Bool
told before rest = list_any (λ m. is_in m before) rest || has_twice rest

among_more : (n : List ℕ) (before rest : List (List ℕ)) → list_any (λ m. is_in m (before ++ n ∷ [])) rest ≡ (list_any (λ m. is_in m before) rest || is_in n rest)
among_more n before [] = refl
among_more n before (m ∷ rest) =
    let one : is_in m (before ++ n ∷ []) ≡ (is_in m before || (bytes_eq m n || false)) = list_any-append (λ k. bytes_eq m k) before (n ∷ []) in
    let others : list_any (λ k. is_in k (before ++ n ∷ [])) rest ≡ (list_any (λ k. is_in k before) rest || is_in n rest) = among_more n before rest in
    ap (λ b. b || list_any (λ k. is_in k (before ++ n ∷ [])) rest) one ∙ ap (λ b. (is_in m before || (bytes_eq m n || false)) || b) others
    ∙ regroup (is_in m before) (bytes_eq m n) (list_any (λ k. is_in k before) rest) (is_in n rest)
    ∙ ap (λ b. (is_in m before || list_any (λ k. is_in k before) rest) || (b || is_in n rest)) (nat_list_eq_equiv.symm m n)

told_new : (n : List ℕ) (before rest : List (List ℕ)) → is_in n before ≡ false → told before (n ∷ rest) ≡ told (before ++ n ∷ []) rest
told_new n before rest h =
    ap (λ b. (b || list_any (λ m. is_in m before) rest) || (is_in n rest || has_twice rest)) h
    ∙ or_assoc (list_any (λ m. is_in m before) rest) (is_in n rest) (has_twice rest) ∙ ap (λ b. b || has_twice rest) (sym (among_more n before rest))

told_here : (n : List ℕ) (before rest : List (List ℕ)) → is_in n before ≡ true → told before (n ∷ rest) ≡ true
told_here n before rest h = ap (λ b. (b || list_any (λ m. is_in m before) rest) || (is_in n rest || has_twice rest)) h

pub told_none : (ns : List (List ℕ)) → told [] ns ≡ has_twice ns
told_none ns = ap (λ b. b || has_twice ns) (none ns)
  where
    none : (xs : List (List ℕ)) → list_any (λ m. is_in m []) xs ≡ false
    none [] = refl
    none (x ∷ xs) = none xs

-- one more name, which stands before: it stands twice
pub twice_here : (ns before rest : List (List ℕ)) (n : List ℕ) (i : ℕ) → drop i ns ≡ n ∷ rest → told before (drop i ns) ≡ has_twice ns → is_in n before ≡ true → true ≡ has_twice ns
twice_here ns before rest n i d told_so h = sym (told_here n before rest h) ∙ sym (ap (told before) d) ∙ told_so

-- one more name, which is new: it stands before the rest
pub twice_on : (ns before rest : List (List ℕ)) (n : List ℕ) (i : ℕ) → drop i ns ≡ n ∷ rest → told before (drop i ns) ≡ has_twice ns → is_in n before ≡ false → told (before ++ n ∷ []) rest ≡ has_twice ns
twice_on ns before rest n i d told_so h = sym (told_new n before rest h) ∙ sym (ap (told before) d) ∙ told_so

abbrev pub same_slice : Bor (List ℕ) → Bor (List ℕ) → Bool
same_slice x y = bytes_eq x.now y.now

pub slice_among : (k : Bor (List ℕ)) (ks : List (Bor (List ℕ))) → list_any (same_slice k) ks ≡ is_in k.now (slices_seen ks)
slice_among k ks = sym (list_any-map (λ n. bytes_eq k.now n) (λ (x : Bor (List ℕ)). x.now) ks)

-- a new name stands behind the others
pub slice_added : (k : Bor (List ℕ)) (ks new : List (Bor (List ℕ))) (n : List ℕ) → k.now ≡ n → is_in n (slices_seen ks) ≡ false → new ≡ insert_key same_slice ks k → slices_seen new ≡ slices_seen ks ++ n ∷ []
slice_added k ks new n e h i =
    let absent : list_any (same_slice k) ks ≡ false = slice_among k ks ∙ ap (λ m. is_in m (slices_seen ks)) e ∙ h in
    ap slices_seen i ∙ ap (λ b. slices_seen (if b then ks else ks ++ k ∷ [])) absent ∙ map-append (λ (x : Bor (List ℕ)). x.now) ks (k ∷ []) ∙ ap (λ m. slices_seen ks ++ m ∷ []) e

pub neither : (a b : Bool) → (a || b) ≡ false → (a ≡ false) × (b ≡ false)
neither true b h = absurd (cc)
neither false b h = (refl, h)

-- where no name stands twice, each is new behind those before it
pub each_new : (before rest : List (List ℕ)) (n : List ℕ) → has_twice (before ++ n ∷ rest) ≡ false → is_in n before ≡ false
each_new [] rest n h = refl
each_new (b ∷ bs) rest n h =
    let parts = neither (is_in b (bs ++ n ∷ rest)) (has_twice (bs ++ n ∷ rest)) h in
    let here = neither (is_in b bs) (is_in b (n ∷ rest)) (sym (list_any-append (λ k. bytes_eq b k) bs (n ∷ rest)) ∙ parts.0) in
    let other : bytes_eq n b ≡ false = nat_list_eq_equiv.symm n b ∙ (neither (bytes_eq b n) (is_in b rest) here.1).0 in
    ap (λ x. x || is_in n bs) other ∙ each_new bs rest n parts.1

-- what was asked of a name tells whether it stands before
pub new_by : (k : Bor (List ℕ)) (ks : List (Bor (List ℕ))) (n : List ℕ) (b r : Bool) → k.now ≡ n → r ≡ b → r ≡ not (list_any (same_slice k) ks) → is_in n (slices_seen ks) ≡ not b
new_by k ks n b r e t h = ap (λ m. is_in m (slices_seen ks)) (sym e) ∙ sym (slice_among k ks) ∙ turned (list_any (same_slice k) ks) ∙ ap not (sym h ∙ t)
  where
    turned : (x : Bool) → x ≡ not (not x)
    turned true = refl
    turned false = refl
