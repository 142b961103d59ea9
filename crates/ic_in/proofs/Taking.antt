-- A number more is taken: the bounds and the numbers above them stay together, and it alone is recorded beside the rest.
use Rattle.std.proofs.Common.{◌≡◌, ◌∙◌, sym, ap, subst, refl, ℕ, ◌+◌, ◌<◌, ◌≤◌, Bool, true, false, cond, [], ◌∷◌, map, arith, Some, None, ◌⊎◌, inl, inr}
use Rattle.std.specs.Prelude.{◌&&◌, ◌||◌, ◌==◌, not, nat_lt, nat_le, is_some}
use Rattle.std.specs.List.{list_any}
use Rattle.std.proofs.lemmas.Bool.{cases_Bool, cases_eq, leb-false, and_parts, and_from, or_cases, ltb-true, lt-ltb, eq-eqb, both_ways, cond_both}
use Rattle.std.proofs.lemmas.Bool.Decides.{nat_tests}
use Rattle.ic_base.specs.declared.messages.ComId.{ComId}
use Rattle.def_state.specs.Names.{Identity, Numbers, number_of, put_number, same_identity}
use Rattle.ic_base.specs.declared.limits.TheConstants.{GREATEST_NUMBER}
use Rattle.ic_base.specs.Programs.{same_com}
use Rattle.def_state.specs.Inbox.{insert_identity}
use Rattle.def_state.specs.Image.{is_rising}
use Rattle.ic_index.specs.declared.sorted.Entry.{Entry}
use Rattle.ic_index.specs.Entries.{value_of, put_entry, is_in_order}
use Rattle.ic_index.proofs.Identities.{same-is, same-refl}
use Rattle.ic_index.proofs.Counting.{number-put_same, number-put_other}
use Rattle.ic_index.proofs.Keeping.{value_of-put, value_of-put_other}
use Rattle.ic_index.proofs.Searching.{in_order-put}
use Rattle.ic_in.specs.Taken.{taken_of, is_recorded, is_sender, IsTaken}
use Rattle.ic_in.proofs.Absorbing.{Above, AreLeft, is_within, was-there}
use Rattle.ic_in.proofs.Recorded.{are_higher, com-is, taken-is}
use Rattle.ic_in.proofs.Ordering.{same-rising, rises-insert, insert-any, kept-rises}

-- a bound that is put -----------------------------------------------------------------

higher-put : (d c : ComId) (n : ℕ) (ss : Numbers) → nat_lt d.0 c.0 ≡ true → are_higher d ss ≡ true → are_higher d (put_number c n ss) ≡ true
higher-put d c n [] l h = and_from (nat_lt d.0 c.0) true l refl
higher-put d c n (s ∷ ss) l h =
    let parts = and_parts (nat_lt d.0 s.0.0) (are_higher d ss) h in
    cond_both (same_com c s.0) ((c, n) ∷ ss) (cond (nat_lt c.0 s.0.0) ((c, n) ∷ s ∷ ss) (s ∷ put_number c n ss)) (λ z. are_higher d z ≡ true)
    (λ _. and_from (nat_lt d.0 c.0) (are_higher d ss) l parts.1)
    (λ _. cond_both (nat_lt c.0 s.0.0) ((c, n) ∷ s ∷ ss) (s ∷ put_number c n ss) (λ z. are_higher d z ≡ true)
    (λ _. and_from (nat_lt d.0 c.0) (are_higher d (s ∷ ss)) l h)
    (λ _. and_from (nat_lt d.0 s.0.0) (are_higher d (put_number c n ss)) parts.0 (higher-put d c n ss l parts.1)))

higher-through : (c d : ComId) (ss : Numbers) → nat_lt c.0 d.0 ≡ true → are_higher d ss ≡ true → are_higher c ss ≡ true
higher-through c d [] l h = refl
higher-through c d (s ∷ ss) l h =
    let parts = and_parts (nat_lt d.0 s.0.0) (are_higher d ss) h in
    let low = ltb-true c.0 d.0 l in
    let up = ltb-true d.0 s.0.0 parts.0 in
    and_from (nat_lt c.0 s.0.0) (are_higher c ss) (lt-ltb c.0 s.0.0 (omega arith)) (higher-through c d ss l parts.1)

lower : (c d : ComId) → same_com c d ≡ false → nat_lt c.0 d.0 ≡ false → nat_lt d.0 c.0 ≡ true
lower c d e l = grind (arith, nat_tests)

pub rising-put : (c : ComId) (n : ℕ) (ss : Numbers) → is_rising (map (λ s. s.0.0) ss) ≡ true → is_rising (map (λ s. s.0.0) (put_number c n ss)) ≡ true
rising-put c n [] r = refl
rising-put c n (s ∷ ss) r =
    let parts = and_parts (are_higher s.0 ss) (is_rising (map (λ s. s.0.0) ss)) r in
    let P : Numbers → Type 0 = λ z. is_rising (map (λ s. s.0.0) z) ≡ true in
    cond_both (same_com c s.0) ((c, n) ∷ ss) (cond (nat_lt c.0 s.0.0) ((c, n) ∷ s ∷ ss) (s ∷ put_number c n ss)) P
    (λ e. and_from (are_higher c ss) (is_rising (map (λ s. s.0.0) ss)) (ap (λ d. are_higher d ss) (com-is c s.0 e) ∙ parts.0) parts.1)
    (λ e. cond_both (nat_lt c.0 s.0.0) ((c, n) ∷ s ∷ ss) (s ∷ put_number c n ss) P
    (λ l. and_from (are_higher c (s ∷ ss)) (is_rising (map (λ s. s.0.0) (s ∷ ss))) (and_from (nat_lt c.0 s.0.0) (are_higher c ss) l (higher-through c s.0 ss l parts.0)) r)
    (λ l. and_from (are_higher s.0 (put_number c n ss)) (is_rising (map (λ s. s.0.0) (put_number c n ss))) (higher-put s.0 c n ss (lower c s.0 e l) parts.0) (rising-put c n ss parts.1)))

sender-put : (c d : ComId) (n : ℕ) (ss : Numbers) → is_sender (put_number c n ss) d ≡ (same_com d c || is_sender ss d)
sender-put c d n [] = refl
sender-put c d n (s ∷ ss) =
    cond_both (same_com c s.0) ((c, n) ∷ ss) (cond (nat_lt c.0 s.0.0) ((c, n) ∷ s ∷ ss) (s ∷ put_number c n ss)) (λ z. is_sender z d ≡ (same_com d c || (same_com d s.0 || is_sender ss d)))
    (λ e. twice (same_com d c) (is_sender ss d) ∙ ap (λ z. same_com d c || (same_com d z || is_sender ss d)) (com-is c s.0 e))
    (λ _. cond_both (nat_lt c.0 s.0.0) ((c, n) ∷ s ∷ ss) (s ∷ put_number c n ss) (λ z. is_sender z d ≡ (same_com d c || (same_com d s.0 || is_sender ss d)))
    (λ _. refl)
    (λ _. ap (λ b. same_com d s.0 || b) (sender-put c d n ss) ∙ swap (same_com d s.0) (same_com d c) (is_sender ss d)))
  where
    twice : (a b : Bool) → (a || b) ≡ (a || (a || b))
    twice true b = refl
    twice false b = refl

    swap : (a b c : Bool) → (a || (b || c)) ≡ (b || (a || c))
    swap true true c = refl
    swap true false c = refl
    swap false true c = refl
    swap false false c = refl

-- whichever way it is recorded ----------------------------------------------------------

-- the new one is recorded, and of the others those that were
abbrev pub IsRecordedMore : Numbers → Above → Numbers → Above → Identity → Type 0
IsRecordedMore bounds above new_bounds new_above x = (y : Identity) → is_recorded new_bounds new_above y ≡ (same_identity y x || is_recorded bounds above y)

filled-more : (bounds new_bounds : Numbers) (above new_above : Above) (x : Identity) → IsTaken bounds above → ((d : ComId) → is_sender new_bounds d ≡ (same_com d x.peer || is_sender bounds d)) → IsRecordedMore bounds above new_bounds new_above x → (c : ComId) → is_sender new_bounds c ≡ true → (k : ℕ) × (is_recorded new_bounds new_above (record { peer = c; k = k }) ≡ true)
filled-more bounds new_bounds above new_above x h senders more c there = by (or_cases (same_com c x.peer) (is_sender bounds c) (sym (senders c) ∙ there))
  where
    by : (same_com c x.peer ≡ true) ⊎ (is_sender bounds c ≡ true) → (k : ℕ) × (is_recorded new_bounds new_above (record { peer = c; k = k }) ≡ true)
    by (inl e) =
        let is = com-is c x.peer e in
        (x.k, ap (λ d. is_recorded new_bounds new_above (record { peer = d; k = x.k })) is ∙ more x ∙ ap (λ b. b || is_recorded bounds above x) (same-refl x))
    by (inr s) =
        let old = h.filled c s in
        (old.0, more (record { peer = c; k = old.0 }) ∙ ap (λ b. same_identity (record { peer = c; k = old.0 }) x || b) old.1 ∙ or-true (same_identity (record { peer = c; k = old.0 }) x))
      where
        or-true : (b : Bool) → (b || true) ≡ true
        or-true true = refl
        or-true false = refl

-- so it is inserted in its place
pub inserted : (bounds new_bounds : Numbers) (above new_above : Above) (x : Identity) → IsTaken bounds above → IsTaken new_bounds new_above → IsRecordedMore bounds above new_bounds new_above x → list_any (same_identity x) (taken_of bounds above) ≡ false → taken_of new_bounds new_above ≡ insert_identity x (taken_of bounds above)
inserted bounds new_bounds above new_above x old new more absent =
    same-rising (taken_of new_bounds new_above) (insert_identity x (taken_of bounds above)) (kept-rises new_bounds new_above new) (rises-insert x (taken_of bounds above) (kept-rises bounds above old) absent) (λ z.
    taken-is new_bounds new_above z new ∙ more z ∙ sym (insert-any z x (taken_of bounds above) ∙ ap (λ b. same_identity z x || b) (taken-is bounds above z old)))

-- above the bound -----------------------------------------------------------------------

number-again : (c d : ComId) (bounds : Numbers) → number_of 0 (put_number c (number_of 0 bounds c) bounds) d ≡ number_of 0 bounds d
number-again c d bounds = by (cases_Bool (same_com d c))
  where
    by : (same_com d c ≡ true) ⊎ (same_com d c ≡ false) → number_of 0 (put_number c (number_of 0 bounds c) bounds) d ≡ number_of 0 bounds d
    by (inl e) = let is = com-is d c e in ap (number_of 0 (put_number c (number_of 0 bounds c) bounds)) is ∙ number-put_same c (number_of 0 bounds c) bounds ∙ ap (number_of 0 bounds) (sym is)
    by (inr e) = number-put_other c d (number_of 0 bounds c) bounds e

module _ (bounds : Numbers) (above : Above) (c : ComId) (k : ℕ) where
  abbrev entry : Entry (Unit {0})
  entry = record { peer = c; k = k; value = tt }

  abbrev named : Identity
  named = record { peer = c; k = k }

  pub recorded-above : IsRecordedMore bounds above (put_number c (number_of 0 bounds c) bounds) (put_entry entry above) named
  recorded-above y = by (same_identity y named) refl
    where
      or-true : (b : Bool) → (b || true) ≡ true
      or-true true = refl
      or-true false = refl

      by : (b : Bool) → same_identity y named ≡ b → is_recorded (put_number c (number_of 0 bounds c) bounds) (put_entry entry above) y ≡ (b || is_recorded bounds above y)
      by true e =
          let is = same-is y named e in
          let kept : value_of (put_entry entry above) y ≡ Some tt = ap (value_of (put_entry entry above)) is ∙ value_of-put entry above in
          ap (λ o. (nat_le 1 y.k && nat_le y.k (number_of 0 (put_number c (number_of 0 bounds c) bounds) y.peer)) || is_some o) kept
          ∙ or-true (nat_le 1 y.k && nat_le y.k (number_of 0 (put_number c (number_of 0 bounds c) bounds) y.peer))
      by false e =
          ap (λ n. (nat_le 1 y.k && nat_le y.k n) || is_some (value_of (put_entry entry above) y)) (number-again c y.peer bounds)
          ∙ ap (λ o. (nat_le 1 y.k && nat_le y.k (number_of 0 bounds y.peer)) || is_some o) (value_of-put_other y entry above e)

  -- who is kept there: the new one, or one of the old
  kept-above : (x : Identity) → is_some (value_of (put_entry entry above) x) ≡ true → (x ≡ named) ⊎ (is_some (value_of above x) ≡ true)
  kept-above x s = by (cases_Bool (same_identity x named))
    where
      by : (same_identity x named ≡ true) ⊎ (same_identity x named ≡ false) → (x ≡ named) ⊎ (is_some (value_of above x) ≡ true)
      by (inl e) = inl (same-is x named e)
      by (inr e) = inr (ap is_some (sym (value_of-put_other x entry above e)) ∙ s)

  pub taken-above : IsTaken bounds above → number_of 0 bounds c + 1 < k → k ≤ GREATEST_NUMBER → IsTaken (put_number c (number_of 0 bounds c) bounds) (put_entry entry above)
  taken-above h up low = record {
    senders = rising-put c (number_of 0 bounds c) bounds h.senders;
    ordered = in_order-put entry above h.ordered;
    listed = λ x s. listed x (kept-above x s);
    higher = λ x s. let same = number-again c x.peer bounds in let old = higher x (kept-above x s) in omega arith;
    low = λ d. let same = number-again c d bounds in let old = h.low d in omega arith;
    limited = λ x s. limited x (kept-above x s);
    filled = filled-more bounds (put_number c (number_of 0 bounds c) bounds) above (put_entry entry above) named h (λ d. sender-put c d (number_of 0 bounds c) bounds) recorded-above;
  }
    where
      or-true : (b : Bool) → (b || true) ≡ true
      or-true true = refl
      or-true false = refl

      listed : (x : Identity) → (x ≡ named) ⊎ (is_some (value_of above x) ≡ true) → is_sender (put_number c (number_of 0 bounds c) bounds) x.peer ≡ true
      listed x (inl e) = sender-put c x.peer (number_of 0 bounds c) bounds ∙ ap (λ z. same_com z.peer c || is_sender bounds x.peer) e ∙ ap (λ b. b || is_sender bounds x.peer) (eq-eqb c.0 c.0 refl)
      listed x (inr s) = sender-put c x.peer (number_of 0 bounds c) bounds ∙ ap (λ b. same_com x.peer c || b) (h.listed x s) ∙ or-true (same_com x.peer c)

      higher : (x : Identity) → (x ≡ named) ⊎ (is_some (value_of above x) ≡ true) → number_of 0 bounds x.peer + 1 < x.k
      higher x (inl e) = let peers = ap (λ z. number_of 0 bounds z.peer) e in let ks = ap (λ z. z.k) e in omega arith
      higher x (inr s) = h.higher x s

      limited : (x : Identity) → (x ≡ named) ⊎ (is_some (value_of above x) ≡ true) → x.k ≤ GREATEST_NUMBER
      limited x (inl e) = let ks = ap (λ z. z.k) e in omega arith
      limited x (inr s) = h.limited x s

-- behind the bound ----------------------------------------------------------------------

-- a number up to the new bound: the next one, one that was absorbed, or one up to the old bound
numbers-more : (n k b end : ℕ) (s : Bool) → k ≡ b + 1 → k ≤ end → (k < n → n ≤ end → s ≡ true) → ((nat_le 1 n && nat_le n end) || (s && not (nat_lt k n && nat_le n end))) ≡ ((n == k) || ((nat_le 1 n && nat_le n b) || s))
numbers-more n k b end true e l h = grind (arith, nat_tests)
numbers-more n k b end false e l h = grind (arith, nat_tests)

module _ (bounds : Numbers) (above new_above : Above) (c : ComId) (k end : ℕ) (next : k ≡ number_of 0 bounds c + 1) (rise : k ≤ end) (left : AreLeft above new_above c k end) (absorbed : (j : ℕ) → k < j → j ≤ end → is_some (value_of above (record { peer = c; k = j })) ≡ true) where
  abbrev taken_name : Identity
  taken_name = record { peer = c; k = k }

  and-true : (b : Bool) → (b && not false) ≡ b
  and-true true = refl
  and-true false = refl

  pub recorded-bound : IsRecordedMore bounds above (put_number c end bounds) new_above taken_name
  recorded-bound y = by (same_com y.peer c) refl
    where
      by : (b : Bool) → same_com y.peer c ≡ b → is_recorded (put_number c end bounds) new_above y ≡ ((b && (y.k == k)) || is_recorded bounds above y)
      by true e =
          let is = com-is y.peer c e in
          let number : number_of 0 (put_number c end bounds) y.peer ≡ end = ap (number_of 0 (put_number c end bounds)) is ∙ number-put_same c end bounds in
          let was : number_of 0 bounds y.peer ≡ number_of 0 bounds c = ap (number_of 0 bounds) is in
          let P : ComId → Type 0 = λ d. is_some (value_of above (record { peer = d; k = y.k })) ≡ true in
          let there : k < y.k → y.k ≤ end → is_some (value_of above y) ≡ true = λ a b. subst P (sym is) (absorbed y.k a b) in
          ap (λ n. (nat_le 1 y.k && nat_le y.k n) || is_some (value_of new_above y)) number
          ∙ ap (λ b. (nat_le 1 y.k && nat_le y.k end) || b) (left y ∙ ap (λ b. is_some (value_of above y) && not (b && (nat_lt k y.k && nat_le y.k end))) e)
          ∙ numbers-more y.k k (number_of 0 bounds y.peer) end (is_some (value_of above y)) (omega arith) rise there
      by false e =
          ap (λ n. (nat_le 1 y.k && nat_le y.k n) || is_some (value_of new_above y)) (number-put_other c y.peer end bounds e)
          ∙ ap (λ b. (nat_le 1 y.k && nat_le y.k (number_of 0 bounds y.peer)) || b) (left y ∙ ap (λ b. is_some (value_of above y) && not (b && (nat_lt k y.k && nat_le y.k end))) e ∙ and-true (is_some (value_of above y)))

  pub taken-bound : IsTaken bounds above → end ≤ GREATEST_NUMBER → value_of new_above (record { peer = c; k = end + 1 }) ≡ None → is_in_order new_above ≡ true → IsTaken (put_number c end bounds) new_above
  taken-bound h limit last order = record {
    senders = rising-put c end bounds h.senders;
    ordered = order;
    listed = λ x s. sender-put c x.peer end bounds ∙ ap (λ b. same_com x.peer c || b) (h.listed x (was-there above new_above c k end x left s)) ∙ or-true (same_com x.peer c);
    higher = λ x s. higher x s (same_com x.peer c) refl;
    low = λ d. low d (cases_Bool (same_com d c));
    limited = λ x s. h.limited x (was-there above new_above c k end x left s);
    filled = filled-more bounds (put_number c end bounds) above new_above taken_name h (λ d. sender-put c d end bounds) recorded-bound;
  }
    where
      or-true : (b : Bool) → (b || true) ≡ true
      or-true true = refl
      or-true false = refl

      low : (d : ComId) → (same_com d c ≡ true) ⊎ (same_com d c ≡ false) → number_of 0 (put_number c end bounds) d ≤ GREATEST_NUMBER
      low d (inl e) = let same = ap (number_of 0 (put_number c end bounds)) (com-is d c e) ∙ number-put_same c end bounds in omega arith
      low d (inr e) = let same = number-put_other c d end bounds e in let old = h.low d in omega arith

      not-within : (a b : Bool) → (a && not b) ≡ true → b ≡ false
      not-within true true e = sym e
      not-within true false e = refl
      not-within false b e = absurd (cc)

      higher : (x : Identity) → is_some (value_of new_above x) ≡ true → (b : Bool) → same_com x.peer c ≡ b → number_of 0 (put_number c end bounds) x.peer + 1 < x.k
      higher x s false e =
          let same = number-put_other c x.peer end bounds e in
          let old = h.higher x (was-there above new_above c k end x left s) in
          omega arith
      higher x s true e =
          let is = com-is x.peer c e in
          let same : number_of 0 (put_number c end bounds) x.peer ≡ end = ap (number_of 0 (put_number c end bounds)) is ∙ number-put_same c end bounds in
          let old = h.higher x (was-there above new_above c k end x left s) in
          let was : number_of 0 bounds x.peer ≡ number_of 0 bounds c = ap (number_of 0 bounds) is in
          let outside = not-within (is_some (value_of above x)) (is_within c k end x) (sym (left x) ∙ s) in
          let past : nat_le x.k end ≡ false = outside-range (same_com x.peer c) (nat_lt k x.k) (nat_le x.k end) outside e (lt-ltb k x.k (omega arith)) in
          beyond x.k is s (cases_eq x.k (end + 1)) past same
        where
          outside-range : (a b d : Bool) → (a && (b && d)) ≡ false → a ≡ true → b ≡ true → d ≡ false
          outside-range true true d o f g = o
          outside-range true false d o f g = absurd (cc)
          outside-range false b d o f g = absurd (cc)

          beyond : (n : ℕ) → x.peer ≡ c → is_some (value_of new_above (record { peer = x.peer; k = n })) ≡ true → (n ≡ end + 1) ⊎ (n ≡ end + 1 → ⊥) → nat_le n end ≡ false → number_of 0 (put_number c end bounds) x.peer ≡ end → number_of 0 (put_number c end bounds) x.peer + 1 < n
          beyond n is s (inl at) past same =
              let P : ComId → ℕ → Bool = λ d m. is_some (value_of new_above (record { peer = d; k = m })) in
              absurd (both_ways (is_some (value_of new_above (record { peer = x.peer; k = n }))) (ap (λ d. P d n) is ∙ ap (P c) at ∙ ap is_some last) s)
          beyond n is s (inr other) past same = let above_end = leb-false n end past in omega arith
