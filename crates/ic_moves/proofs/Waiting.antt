-- What is kept of the packets that wait.
use Rattle.std.proofs.Common.{◌≡◌, ◌∙◌, sym, ap, subst, refl, arith, ℕ, zero, suc, ◌+◌, ◌-◌, ◌<◌, ◌≤◌, ◌==◌, Bool, true, false, not, cond, ◌⊎◌, inl, inr, List, [], ◌∷◌, ◌++◌, length, get_or, set, replicate, filter, Option, Some, None}
use Rattle.std.specs.Prelude.{◌&&◌, find, slice_get, option_and_then}
use Rattle.std.proofs.lemmas.Bool.{cases_eq, cases_lt, eqb-false, ne_eqb, both_ways}
use Rattle.std.proofs.lemmas.List.{length-append, length-set, length-replicate, get_or-set_same, get_or-set_other}
use Rattle.ic_network.specs.Lanes.{numbers_from, is_waiting, without_wait, if_some}
use Rattle.ic_network.proofs.Leaving.{off-same, off-here}
use Rattle.ic_network.proofs.Listing.{listed, listed-first, listed-off, listed-push}
use Rattle.ic_network.proofs.Pushing.{read-below}
use Rattle.def_two.specs.declared.moves.Packet2.{Packet2}
use Rattle.def_two.specs.World.{goes, nth, first_number}
use Rattle.ic_moves.specs.Networks.{IsKept, waits_between, pair_of}

pub kept_new : (packets : List Packet2) (waits : List Bool) (passed : List ℕ) → packets ≡ [] → waits ≡ [] → ◌≡◌ {A = List ℕ} passed (replicate 256 0) → IsKept packets waits passed 0
kept_new packets waits passed p w z = record {
  waits_len = ap length w ∙ ap length (sym p);
  pairs = ap length z ∙ length-replicate {A = ℕ} 256 0;
  first_within = omega arith;
  first_passed = λ k l. absurd (omega (arith, l));
  within = λ pair. let none : get_or passed pair 0 ≡ 0 = zeros pair in omega (arith, none);
  pairs_passed = λ from to k f t l. let none : get_or passed (pair_of from to) 0 ≡ 0 = zeros (pair_of from to) in absurd (omega (arith, none, l));
}
  where
    none_of : (n pair : ℕ) → ◌≡◌ {A = ℕ} (get_or (replicate n 0) pair 0) 0
    none_of zero pair = refl
    none_of (suc n) zero = refl
    none_of (suc n) (suc pair) = none_of n pair

    zeros : (pair : ℕ) → get_or passed pair 0 ≡ 0
    zeros pair = ap (λ (l : List ℕ). get_or l pair 0) z ∙ none_of 256 pair

-- the same packet in the same place
pub get_below : {X : Type 0} (xs : List X) (y : X) (k : ℕ) → k < length xs → slice_get (xs ++ y ∷ []) k ≡ slice_get xs k
get_below [] y k l = absurd (omega (arith, l))
get_below (x ∷ xs) y zero l = refl
get_below (x ∷ xs) y (suc k) l = get_below xs y k (omega (arith, l))

-- one packet more waits
pub kept_push : (packets : List Packet2) (waits : List Bool) (passed : List ℕ) (first : ℕ) (p : Packet2) → IsKept packets waits passed first → IsKept (packets ++ p ∷ []) (waits ++ true ∷ []) passed first
kept_push packets waits passed first p h = record {
  waits_len = let a = length-append waits (true ∷ []) in let b = length-append packets (p ∷ []) in omega (arith, a, b, h.waits_len);
  pairs = h.pairs;
  first_within = let a = length-append waits (true ∷ []) in omega (arith, a, h.first_within);
  first_passed = λ k l. same k (omega (arith, l, h.first_within)) ∙ h.first_passed k l;
  within = λ pair. let a = length-append waits (true ∷ []) in omega (arith, a, h.within pair);
  pairs_passed = λ from to k f t l.
      let inside : k < length waits = omega (arith, l, h.within (pair_of from to)) in
      ap (λ b. b && goes from to (slice_get (packets ++ p ∷ []) k)) (same k inside)
      ∙ ap (λ o. is_waiting waits k && goes from to o) (get_below packets p k (omega (arith, inside, h.waits_len)))
      ∙ h.pairs_passed from to k f t l;
}
  where
    same : (k : ℕ) → k < length waits → is_waiting (waits ++ true ∷ []) k ≡ is_waiting waits k
    same k l = read-below waits true false k l

and-false : (a b c : Bool) → (a ≡ true → b ≡ true) → (b && c) ≡ false → (a && c) ≡ false
and-false false b c f e = refl
and-false true b c f e = ap (λ x. x && c) (sym (f refl)) ∙ e

-- one packet waits no longer
module _ (packets : List Packet2) (waits : List Bool) (passed : List ℕ) (first i now : ℕ) (h : IsKept packets waits passed first) where
  less : (k : ℕ) → is_waiting (set waits i false) k ≡ true → is_waiting waits k ≡ true
  less k w = by (cases_eq k i)
    where
      by : (k ≡ i) ⊎ (k ≡ i → ⊥) → is_waiting waits k ≡ true
      by (inl e) = absurd (both_ways (is_waiting (set waits i false) k) (ap (λ j. is_waiting (set waits i false) j) e ∙ off-here [] waits i) w)
      by (inr d) = sym (off-same [] waits i k d) ∙ w

  pub kept_off : now ≤ length (set waits i false) → ((k : ℕ) → first ≤ k → k < now → is_waiting (set waits i false) k ≡ false) → IsKept packets (set waits i false) passed now
  kept_off within gone = record {
    waits_len = length-set waits i false ∙ h.waits_len;
    pairs = h.pairs;
    first_within = within;
    first_passed = λ k l. by k l (cases_lt k first);
    within = λ pair. let same = length-set waits i false in omega (arith, same, h.within pair);
    pairs_passed = λ from to k f t l. and-false (is_waiting (set waits i false) k) (is_waiting waits k) (goes from to (slice_get packets k)) (less k) (h.pairs_passed from to k f t l);
  }
    where
      by : (k : ℕ) → k < now → (k < first) ⊎ (first ≤ k) → is_waiting (set waits i false) k ≡ false
      by k l (inl below) = still (is_waiting (set waits i false) k) (less k) (h.first_passed k below)
        where
          still : (b : Bool) → (b ≡ true → is_waiting waits k ≡ true) → is_waiting waits k ≡ false → b ≡ false
          still false f e = refl
          still true f e = sym (f refl) ∙ e
      by k l (inr above) = gone k above l

-- the place of a pair goes on
pub kept_passed : (packets : List Packet2) (waits : List Bool) (passed : List ℕ) (first from to at : ℕ) → IsKept packets waits passed first → from < 16 → to < 16 → at ≤ length waits
    → ((k : ℕ) → get_or passed (pair_of from to) 0 ≤ k → k < at → waits_between packets waits from to k ≡ false) → IsKept packets waits (set passed (pair_of from to) at) first
kept_passed packets waits passed first from to at h f t inside gone = record {
  waits_len = h.waits_len;
  pairs = length-set passed (pair_of from to) at ∙ h.pairs;
  first_within = h.first_within;
  first_passed = h.first_passed;
  within = λ pair. bounded pair (cases_eq pair (pair_of from to));
  pairs_passed = λ a b k la lb l. by a b k la lb l (cases_eq (pair_of a b) (pair_of from to));
}
  where
    there : pair_of from to < length passed
    there = omega (arith, h.pairs, f, t)

    here : (pair : ℕ) → pair ≡ pair_of from to → get_or (set passed (pair_of from to) at) pair 0 ≡ at
    here pair e = ap (λ j. get_or (set passed (pair_of from to) at) j 0) e ∙ get_or-set_same passed (pair_of from to) at 0 there

    other : (pair : ℕ) → (pair ≡ pair_of from to → ⊥) → get_or (set passed (pair_of from to) at) pair 0 ≡ get_or passed pair 0
    other pair d = get_or-set_other passed (pair_of from to) pair at 0 d

    bounded : (pair : ℕ) → (pair ≡ pair_of from to) ⊎ (pair ≡ pair_of from to → ⊥) → get_or (set passed (pair_of from to) at) pair 0 ≤ length waits
    bounded pair (inl e) = let is = here pair e in omega (arith, is, inside)
    bounded pair (inr d) = let is = other pair d in omega (arith, is, h.within pair)

    by : (a b k : ℕ) → a < 16 → b < 16 → k < get_or (set passed (pair_of from to) at) (pair_of a b) 0 → (pair_of a b ≡ pair_of from to) ⊎ (pair_of a b ≡ pair_of from to → ⊥) → waits_between packets waits a b k ≡ false
    by a b k la lb l (inr d) = let is = other (pair_of a b) d in h.pairs_passed a b k la lb (omega (arith, is, l))
    by a b k la lb l (inl e) = step (cases_lt k (get_or passed (pair_of from to) 0))
      where
        one : a ≡ from
        one = omega (arith, e, la, lb, f, t)

        two : b ≡ to
        two = omega (arith, e, la, lb, f, t)

        at_pair : waits_between packets waits from to k ≡ false → waits_between packets waits a b k ≡ false
        at_pair g = ap (λ x. waits_between packets waits x b k) one ∙ ap (λ y. waits_between packets waits from y k) two ∙ g

        step : (k < get_or passed (pair_of from to) 0) ⊎ (get_or passed (pair_of from to) 0 ≤ k) → waits_between packets waits a b k ≡ false
        step (inl below) = at_pair (h.pairs_passed from to k f t below)
        step (inr above) = let is = here (pair_of a b) e in at_pair (gone k above (omega (arith, is, l)))

-- what is found ----------------------------------------------------------------------------

-- the oldest number between two components
pub found_between : (packets : List Packet2) (waits : List Bool) (from to at : ℕ) → ((k : ℕ) → k < at → waits_between packets waits from to k ≡ false) → (at < length waits → waits_between packets waits from to at ≡ true) → at ≤ length waits
    → ((at < length waits) → Some (at + 1) ≡ find (λ i. goes from to (nth packets i)) (numbers_from 1 waits)) × ((at < length waits → ⊥) → ◌≡◌ {A = Option ℕ} None (find (λ i. goes from to (nth packets i)) (numbers_from 1 waits)))
found_between packets waits from to at passed here within = (some, none)
  where
    test : ℕ → Bool
    test i = goes from to (nth packets i)

    place : ℕ → Bool
    place k = goes from to (slice_get packets k)

    same : (k : ℕ) → place k ≡ test (1 + k)
    same k = let behind : suc k ≡ 1 + k = omega arith in ap test behind

    some : at < length waits → Some (at + 1) ≡ find test (numbers_from 1 waits)
    some l = first (listed test place waits (at + 1) same (record {
      some = λ p. let back : at + 1 - 1 ≡ at = omega arith in (omega arith, omega (arith, l), ap (λ k. waits_between packets waits from to k) back ∙ here l);
      before = λ k z l2 f. passed k (let below = f (omega arith) in omega (arith, below));
    }))
      where
        first : if_some (at + 1) ≡ find test (numbers_from 1 waits) → Some (at + 1) ≡ find test (numbers_from 1 waits)
        first e = ap (λ b. cond b None (Some (at + 1))) (sym (ne_eqb (at + 1) 0 (λ z. omega (arith, z)))) ∙ e

    none : (at < length waits → ⊥) → ◌≡◌ {A = Option ℕ} None (find test (numbers_from 1 waits))
    none n = listed test place waits 0 same (record {
      some = λ p. absurd (omega (arith, p));
      before = λ k z l f. passed k (below k l (cases_lt at (length waits)));
    })
      where
        below : (k : ℕ) → k < length waits → (at < length waits) ⊎ (length waits ≤ at) → k < at
        below k l (inl lt) = absurd (n lt)
        below k l (inr ge) = omega (arith, l, ge)

-- the oldest packet of all
pub oldest_now : (packets : List Packet2) (waits ws : List Bool) (passed : List ℕ) (first at : ℕ) → IsKept packets waits passed first → ws ≡ waits → ((k : ℕ) → first ≤ k → k < at → is_waiting ws k ≡ false)
    → (at < length ws → (first ≤ at) × (is_waiting ws at ≡ true)) → at ≤ length ws → slice_get packets at ≡ option_and_then (nth packets) (first_number (numbers_from 1 waits))
oldest_now packets waits ws passed first at h same passes here within = by (cases_lt at (length waits))
  where
    beyond : (ps : List Packet2) (k : ℕ) → length ps ≤ k → slice_get ps k ≡ None
    beyond [] k l = refl
    beyond (p ∷ ps) zero l = absurd (omega (arith, l))
    beyond (p ∷ ps) (suc k) l = beyond ps k (omega (arith, l))

    none_below : (k : ℕ) → k < at → is_waiting waits k ≡ false
    none_below k l = step (cases_lt k first)
      where
        step : (k < first) ⊎ (first ≤ k) → is_waiting waits k ≡ false
        step (inl below) = h.first_passed k below
        step (inr above) = ap (λ (z : List Bool). is_waiting z k) (sym same) ∙ passes k above l

    is_here : at < length waits → is_waiting waits at ≡ true
    is_here l = let long = ap length same in ap (λ (z : List Bool). is_waiting z at) (sym same) ∙ (here (omega (arith, long, l))).1

    by : (at < length waits) ⊎ (length waits ≤ at) → slice_get packets at ≡ option_and_then (nth packets) (first_number (numbers_from 1 waits))
    by (inl l) =
        let back : suc at - 1 ≡ at = omega arith in
        let found = listed-first waits (suc at) (record {
          some = λ p. (omega arith, omega (arith, l), ap (is_waiting waits) back ∙ is_here l);
          before = λ k z l2 f. none_below k (let below = f (omega arith) in omega (arith, below));
        }) in
        let number : ◌≡◌ {A = Option ℕ} (Some (suc at)) (if_some (suc at)) = ap (λ b. cond b None (Some (suc at))) (sym (ne_eqb (suc at) 0 (λ z. omega (arith, z)))) in
        ap (option_and_then (nth packets)) (number ∙ found)
    by (inr ge) =
        let long = ap length same in
        let found = listed-first waits 0 (record { some = λ p. absurd (omega (arith, p)); before = λ k z l f. none_below k (omega (arith, l, ge)) }) in
        beyond packets at (let same_len = h.waits_len in omega (arith, same_len, ge)) ∙ ap (option_and_then (nth packets)) found

-- a number that no packet has leaves all as it was
pub off_none : (number : ℕ) (waits : List Bool) → (number ≡ 0) ⊎ (length waits < number) → filter (λ j. not (number == j)) (numbers_from 1 waits) ≡ numbers_from 1 waits
off_none number waits out = sym (listed-off number waits) ∙ ap (numbers_from 1) (by out)
  where
    beyond : (ws : List Bool) (k : ℕ) → length ws ≤ k → set ws k false ≡ ws
    beyond [] k l = refl
    beyond (w ∷ ws) zero l = absurd (omega (arith, l))
    beyond (w ∷ ws) (suc k) l = ap (λ l. w ∷ l) (beyond ws k (omega (arith, l)))

    at : (b : Bool) → (number ≡ 0) ⊎ (length waits < number) → (number == 0) ≡ b → cond b waits (set waits (number - 1) false) ≡ waits
    at true o e = refl
    at false (inl z) e = absurd (let some = eqb-false number 0 e in omega (arith, z, some))
    at false (inr l) e = beyond waits (number - 1) (omega (arith, l))

    by : (number ≡ 0) ⊎ (length waits < number) → without_wait number waits ≡ waits
    by o = at (number == 0) o refl

-- one that a packet has waits no longer
pub off_some : (number : ℕ) (waits : List Bool) → 1 ≤ number → numbers_from 1 (set waits (number - 1) false) ≡ filter (λ j. not (number == j)) (numbers_from 1 waits)
off_some number waits some = ap (λ b. numbers_from 1 (cond b waits (set waits (number - 1) false))) (sym (ne_eqb number 0 (λ z. omega (arith, z, some)))) ∙ listed-off number waits

-- the place of a pair, or none
abbrev pub IsPlaceOf : List ℕ → ℕ → ℕ → ℕ → Type 0
IsPlaceOf passed from to start = (start ≡ 0) ⊎ ((from < 16) × (to < 16) × (start ≡ get_or passed (pair_of from to) 0))

module _ (packets : List Packet2) (waits : List Bool) (passed : List ℕ) (first from to start at : ℕ) (h : IsKept packets waits passed first) (place : IsPlaceOf passed from to start)
    (ps : List Packet2) (ws : List Bool) (same_ps : ps ≡ packets) (same_ws : ws ≡ waits) (passes : (k : ℕ) → start ≤ k → k < at → waits_between ps ws from to k ≡ false)
    (here : at < length ws → (start ≤ at) × (waits_between ps ws from to at ≡ true)) (within : at ≤ length ws) where
  as_kept : (k : ℕ) (b : Bool) → waits_between ps ws from to k ≡ b → waits_between packets waits from to k ≡ b
  as_kept k b e = ap (λ (z : List Packet2). waits_between z waits from to k) (sym same_ps) ∙ ap (λ (z : List Bool). waits_between ps z from to k) (sym same_ws) ∙ e

  below_start : (k : ℕ) → k < start → IsPlaceOf passed from to start → waits_between packets waits from to k ≡ false
  below_start k l (inl z) = absurd (omega (arith, z, l))
  below_start k l (inr z) = h.pairs_passed from to k z.0 z.1 (let is = z.2 in omega (arith, is, l))

  none_below : (k : ℕ) → k < at → waits_between packets waits from to k ≡ false
  none_below k l = step (cases_lt k start)
    where
      step : (k < start) ⊎ (start ≤ k) → waits_between packets waits from to k ≡ false
      step (inl below) = below_start k below place
      step (inr above) = as_kept k false (passes k above l)

  long : length ws ≡ length waits
  long = ap length same_ws

  pub found_now : ((at < length waits) → Some (at + 1) ≡ find (λ i. goes from to (nth packets i)) (numbers_from 1 waits)) × ((at < length waits → ⊥) → ◌≡◌ {A = Option ℕ} None (find (λ i. goes from to (nth packets i)) (numbers_from 1 waits)))
  found_now = found_between packets waits from to at none_below (λ l. as_kept at true (here (omega (arith, long, l))).1) (omega (arith, long, within))

  pub kept_now : (now : List ℕ) → (now ≡ passed) ⊎ ((from < 16) × (to < 16) × (now ≡ set passed (pair_of from to) at)) → IsKept packets waits now first
  kept_now now (inl e) = subst (λ z. IsKept packets waits z first) (sym e) h
  kept_now now (inr e) = subst (λ z. IsKept packets waits z first) (sym e.2) (kept_passed packets waits passed first from to at h e.0 e.1 (omega (arith, long, within)) (λ k a l. none_below k l))

pub kept_pushed : (packets ps : List Packet2) (waits ws : List Bool) (passed : List ℕ) (first : ℕ) (p : Packet2) → ps ≡ packets ++ p ∷ [] → ws ≡ waits ++ true ∷ [] → IsKept packets waits passed first → IsKept ps ws passed first
kept_pushed packets ps waits ws passed first p e f h = subst (λ z. IsKept z ws passed first) (sym e) (subst (λ z. IsKept (packets ++ p ∷ []) z passed first) (sym f) (kept_push packets waits passed first p h))

pub pushed_waits : (waits ws : List Bool) → ws ≡ waits ++ true ∷ [] → numbers_from 1 ws ≡ numbers_from 1 waits ++ (1 + length waits) ∷ []
pushed_waits waits ws e = ap (numbers_from 1) e ∙ listed-push 1 waits
