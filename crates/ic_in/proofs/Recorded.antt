-- An identity is among the taken ones exactly where its number is up to the sender's bound, or kept above it.
use Rattle.std.proofs.Common.{◌≡◌, ◌∙◌, sym, ap, refl, ℕ, zero, suc, ◌+◌, ◌<◌, ◌≤◌, Bool, true, false, cond, List, [], ◌∷◌, ◌++◌, map, arith, Option, Some, ◌⊎◌, inl, inr}
use Rattle.std.specs.Prelude.{◌&&◌, ◌||◌, ◌==◌, nat_lt, nat_le, filter, is_some}
use Rattle.std.specs.List.{list_any, list_all, range_with_len}
use Rattle.std.proofs.lemmas.Bool.{cases_Bool, and_parts, or_cases, or_left, or_from, and_from, ltb-true, leb-true, le-leb, eqb-true, ne_eqb, false_from_ne_true, and_right, lt-leb, cases_lt, both_ways}
use Rattle.std.proofs.lemmas.Bool.Decides.{nat_tests}
use Rattle.ic_base.specs.declared.messages.ComId.{ComId}
use Rattle.ic_base.specs.Programs.{same_com}
use Rattle.def_state.specs.Names.{Identity, Numbers, number_of, same_identity}
use Rattle.def_state.specs.Image.{identities, is_rising}
use Rattle.ic_index.specs.Entries.{value_of}
use Rattle.ic_in.specs.Taken.{numbers_above, taken_of, is_recorded, is_sender, IsTaken}
use Rattle.ic_in.proofs.Absorbing.{Above}

pub any-append : {X : Type 0} (p : X → Bool) (xs ys : List X) → list_any p (xs ++ ys) ≡ (list_any p xs || list_any p ys)
any-append p [] ys = refl
any-append p (x ∷ xs) ys = by (p x) (any-append p xs ys)
  where
    by : (b : Bool) → list_any p (xs ++ ys) ≡ (list_any p xs || list_any p ys) → (b || list_any p (xs ++ ys)) ≡ ((b || list_any p xs) || list_any p ys)
    by true e = refl
    by false e = e

pub any-named : (c : ComId) (x : Identity) (ns : List ℕ) → list_any (same_identity x) (map (λ k. record { peer = c; k = k }) ns) ≡ (same_com x.peer c && list_any (λ n. x.k == n) ns)
any-named c x [] = by (same_com x.peer c)
  where
    by : (b : Bool) → false ≡ (b && false)
    by true = refl
    by false = refl
any-named c x (n ∷ ns) = by (same_com x.peer c) (any-named c x ns)
  where
    by : (b : Bool) → list_any (same_identity x) (map (λ k. record { peer = c; k = k }) ns) ≡ (b && list_any (λ n. x.k == n) ns) → ((b && (x.k == n)) || list_any (same_identity x) (map (λ k. record { peer = c; k = k }) ns)) ≡ (b && ((x.k == n) || list_any (λ n. x.k == n) ns))
    by true e = ap (λ r. (x.k == n) || r) e
    by false e = e

any-range : (k a n : ℕ) → list_any (λ m. k == m) (range_with_len a n) ≡ (nat_le a k && nat_lt k (a + n))
any-range k a zero = grind (arith, nat_tests)
any-range k a (suc n) = grind (arith, nat_tests, any-range k (a + 1) n)

in-range : (k w : ℕ) → list_any (λ m. k == m) (range_with_len 1 w) ≡ (nat_le 1 k && nat_le k w)
in-range k w = any-range k 1 w ∙ ap (λ b. nat_le 1 k && b) (below k w)
  where
    below : (k w : ℕ) → nat_lt k (1 + w) ≡ nat_le k w
    below k w = grind (arith, nat_tests)

-- the numbers above a bound, and those kept
pub any-above : (above : Above) (c : ComId) (k : ℕ) → list_any (λ n. k == n) (numbers_above above c) ≡ is_some (value_of above (record { peer = c; k = k }))
any-above [] c k = refl
any-above (e ∷ es) c k = by (same_com c e.peer) (any-above es c k)
  where
    or-some : (d : Bool) (o : Option (Unit {0})) → (d || is_some o) ≡ is_some (cond d (Some e.value) o)
    or-some true o = refl
    or-some false o = refl

    by : (b : Bool) → list_any (λ n. k == n) (numbers_above es c) ≡ is_some (value_of es (record { peer = c; k = k })) → list_any (λ n. k == n) (map (λ z. z.k) (cond b (e ∷ filter (λ z. same_com c z.peer) es) (filter (λ z. same_com c z.peer) es))) ≡ is_some (cond (b && (k == e.k)) (Some e.value) (value_of es (record { peer = c; k = k })))
    by true r = ap (λ b. (k == e.k) || b) r ∙ or-some (k == e.k) (value_of es (record { peer = c; k = k }))
    by false r = r

-- one sender's identities
pub any-identities : (c : ComId) (w : ℕ) (above : Above) (x : Identity) → list_any (same_identity x) (identities c w (numbers_above above c)) ≡ (same_com x.peer c && ((nat_le 1 x.k && nat_le x.k w) || is_some (value_of above (record { peer = c; k = x.k }))))
any-identities c w above x =
    any-named c x (range_with_len 1 w ++ numbers_above above c)
    ∙ ap (λ b. same_com x.peer c && b) (
    any-append (λ n. x.k == n) (range_with_len 1 w) (numbers_above above c)
    ∙ ap (λ b. b || list_any (λ n. x.k == n) (numbers_above above c)) (in-range x.k w)
    ∙ ap (λ b. (nat_le 1 x.k && nat_le x.k w) || b) (any-above above c x.k)
    )

-- senders -----------------------------------------------------------------------------

pub com-is : (c d : ComId) → same_com c d ≡ true → c ≡ d
com-is c d e = let P : ℕ → ComId = λ n. record { 0 = n } in ap P (eqb-true c.0 d.0 e)

abbrev pub are_higher : ComId → Numbers → Bool
are_higher c ss = list_all (λ n. nat_lt c.0 n) (map (λ s. s.0.0) ss)

pub not-behind : (c : ComId) (ss : Numbers) → are_higher c ss ≡ true → is_sender ss c ≡ false
not-behind c [] h = refl
not-behind c (s ∷ ss) h =
    let parts = and_parts (nat_lt c.0 s.0.0) (are_higher c ss) h in
    or_from (same_com c s.0) (is_sender ss c) (ne_eqb c.0 s.0.0 (λ e. let l = ltb-true c.0 s.0.0 parts.0 in omega arith)) (not-behind c ss parts.1)

pub none-kept_for : (c : ComId) (ss : Numbers) → is_sender ss c ≡ false → number_of 0 ss c ≡ 0
none-kept_for c [] h = refl
none-kept_for c (s ∷ ss) h = by (same_com c s.0) h (none-kept_for c ss)
  where
    by : (b : Bool) → (b || is_sender ss c) ≡ false → (is_sender ss c ≡ false → number_of 0 ss c ≡ 0) → cond b s.1 (number_of 0 ss c) ≡ 0
    by true h r = absurd (cc)
    by false h r = r h

rising-parts : (s : ComId × ℕ) (ss : Numbers) → is_rising (map (λ z. z.0.0) (s ∷ ss)) ≡ true → (are_higher s.0 ss ≡ true) × (is_rising (map (λ z. z.0.0) ss) ≡ true)
rising-parts s ss h = and_parts (are_higher s.0 ss) (is_rising (map (λ z. z.0.0) ss)) h

-- all senders' identities
taken-any : (ss : Numbers) (above : Above) (x : Identity) → is_rising (map (λ z. z.0.0) ss) ≡ true → list_any (same_identity x) (taken_of ss above) ≡ (is_sender ss x.peer && is_recorded ss above x)
taken-any [] above x h = refl
taken-any (s ∷ ss) above x h =
    any-append (same_identity x) (identities s.0 s.1 (numbers_above above s.0)) (taken_of ss above)
    ∙ ap (λ b. b || list_any (same_identity x) (taken_of ss above)) (any-identities s.0 s.1 above x)
    ∙ by (same_com x.peer s.0) refl (taken-any ss above x (rising-parts s ss h).1)
  where
    by : (b : Bool) → same_com x.peer s.0 ≡ b → list_any (same_identity x) (taken_of ss above) ≡ (is_sender ss x.peer && is_recorded ss above x) → ((b && ((nat_le 1 x.k && nat_le x.k s.1) || is_some (value_of above (record { peer = s.0; k = x.k })))) || list_any (same_identity x) (taken_of ss above)) ≡ ((b || is_sender ss x.peer) && ((nat_le 1 x.k && nat_le x.k (cond b s.1 (number_of 0 ss x.peer))) || is_some (value_of above x)))
    by false e r = r
    by true e r =
        let is = com-is x.peer s.0 e in
        let absent : is_sender ss x.peer ≡ false = not-behind x.peer ss (ap (λ c. are_higher c ss) is ∙ (rising-parts s ss h).0) in
        let K : ComId → Identity = λ c. record { peer = c; k = x.k } in
        ap (λ b. ((nat_le 1 x.k && nat_le x.k s.1) || is_some (value_of above (K s.0))) || b) (r ∙ ap (λ b. b && is_recorded ss above x) absent)
        ∙ or-false ((nat_le 1 x.k && nat_le x.k s.1) || is_some (value_of above (K s.0)))
        ∙ ap (λ c. (nat_le 1 x.k && nat_le x.k s.1) || is_some (value_of above (K c))) (sym is)
      where
        or-false : (b : Bool) → (b || false) ≡ b
        or-false true = refl
        or-false false = refl

-- whatever is recorded has a sender with a bound
sender-of : (bounds : Numbers) (above : Above) (x : Identity) → IsTaken bounds above → is_recorded bounds above x ≡ true → is_sender bounds x.peer ≡ true
sender-of bounds above x h r = by (or_cases (nat_le 1 x.k && nat_le x.k (number_of 0 bounds x.peer)) (is_some (value_of above x)) r)
  where
    by : ((nat_le 1 x.k && nat_le x.k (number_of 0 bounds x.peer)) ≡ true) ⊎ (is_some (value_of above x) ≡ true) → is_sender bounds x.peer ≡ true
    by (inr kept) = h.listed x kept
    by (inl low) = there (cases_Bool (is_sender bounds x.peer))
      where
        there : (is_sender bounds x.peer ≡ true) ⊎ (is_sender bounds x.peer ≡ false) → is_sender bounds x.peer ≡ true
        there (inl e) = e
        there (inr e) =
            let parts = and_parts (nat_le 1 x.k) (nat_le x.k (number_of 0 bounds x.peer)) low in
            let least = leb-true 1 x.k parts.0 in
            let most = leb-true x.k (number_of 0 bounds x.peer) parts.1 in
            let none = none-kept_for x.peer bounds e in
            absurd (omega arith)

pub taken-is : (bounds : Numbers) (above : Above) (x : Identity) → IsTaken bounds above → list_any (same_identity x) (taken_of bounds above) ≡ is_recorded bounds above x
taken-is bounds above x h = taken-any bounds above x h.senders ∙ by (cases_Bool (is_recorded bounds above x))
  where
    by : (is_recorded bounds above x ≡ true) ⊎ (is_recorded bounds above x ≡ false) → (is_sender bounds x.peer && is_recorded bounds above x) ≡ is_recorded bounds above x
    by (inl e) = ap (λ b. b && is_recorded bounds above x) (sender-of bounds above x h e)
    by (inr e) = ap (λ b. is_sender bounds x.peer && b) e ∙ and-false (is_sender bounds x.peer) ∙ sym e
      where
        and-false : (b : Bool) → (b && false) ≡ false
        and-false true = refl
        and-false false = refl

-- past the bound, what is kept above counts
pub recorded-past : (bounds : Numbers) (above : Above) (x : Identity) → number_of 0 bounds x.peer < x.k → is_recorded bounds above x ≡ is_some (value_of above x)
recorded-past bounds above x l = ap (λ b. b || is_some (value_of above x)) (and_right (nat_le 1 x.k) (nat_le x.k (number_of 0 bounds x.peer)) (lt-leb x.k (number_of 0 bounds x.peer) l))

-- up to the bound, each number from 1 is taken
pub recorded-low : (bounds : Numbers) (above : Above) (x : Identity) → IsTaken bounds above → x.k ≤ number_of 0 bounds x.peer → is_recorded bounds above x ≡ nat_le 1 x.k
recorded-low bounds above x h l =
    let none = false_from_ne_true (is_some (value_of above x)) (λ s. let up = h.higher x s in omega arith) in
    ap (λ b. (nat_le 1 x.k && b) || is_some (value_of above x)) (le-leb x.k (number_of 0 bounds x.peer) l)
    ∙ ap (λ b. (nat_le 1 x.k && true) || b) none
    ∙ both (nat_le 1 x.k)
  where
    both : (b : Bool) → ((b && true) || false) ≡ b
    both true = refl
    both false = refl

-- a number from 1 that isn't taken lies past the bound
pub recorded-not : (bounds : Numbers) (above : Above) (x : Identity) → is_recorded bounds above x ≡ false → 1 ≤ x.k → number_of 0 bounds x.peer < x.k
recorded-not bounds above x n l = by (cases_lt (number_of 0 bounds x.peer) x.k)
  where
    by : (number_of 0 bounds x.peer < x.k) ⊎ (x.k ≤ number_of 0 bounds x.peer) → number_of 0 bounds x.peer < x.k
    by (inl past) = past
    by (inr low) = absurd (both_ways (is_recorded bounds above x) n (or_left (nat_le 1 x.k && nat_le x.k (number_of 0 bounds x.peer)) (is_some (value_of above x)) (and_from (nat_le 1 x.k) (nat_le x.k (number_of 0 bounds x.peer)) (le-leb 1 x.k l) (le-leb x.k (number_of 0 bounds x.peer) low))))
