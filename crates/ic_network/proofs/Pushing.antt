-- What is kept of the lanes behind one number more.
use Rattle.std.proofs.Common.{◌≡◌, ◌∙◌, sym, ap, subst, refl, ℕ, ◌+◌, ◌-◌, ◌<◌, ◌≤◌, ◌==◌, Bool, true, false, cond, ◌⊎◌, inl, inr, List, [], ◌∷◌, ◌++◌, length, get_or, set, arith}
use Rattle.std.specs.Prelude.{◌&&◌}
use Rattle.std.proofs.lemmas.Bool.{cases_eq, cases_lt, eqb-true, eqb-false, eq-eqb, ne_eqb, both_ways}
use Rattle.std.proofs.lemmas.List.{length-append, length-set, get_or_append_left, get_or-append_right, get_or-set_same, get_or-set_other}
use Rattle.ic_network.specs.declared.lanes.TheConstants.{LANES, NUMBERS}
use Rattle.ic_network.specs.Lanes.{is_waiting, is_on, is_waiting_on, IsFirst, IsLast}
use Rattle.ic_network.specs.Kept.{IsKept}
use Rattle.ic_network.proofs.Firsts.{first-push, first-push_other, last-push, last-push_other}

pub read-below : {X : Type 0} (xs : List X) (y d : X) (k : ℕ) → k < length xs → get_or (xs ++ y ∷ []) k d ≡ get_or xs k d
read-below xs y d k l = get_or_append_left xs (y ∷ []) d k l

pub read-last : {X : Type 0} (xs : List X) (y d : X) (n : ℕ) → length xs ≡ n → get_or (xs ++ y ∷ []) n d ≡ y
read-last xs y d n e = let z : n - n ≡ 0 = omega arith in get_or-append_right xs (y ∷ []) n n d e (omega arith) ∙ ap (λ j. get_or (y ∷ []) j d) z

pub length-push : {X : Type 0} (xs : List X) (y : X) → length (xs ++ y ∷ []) ≡ length xs + 1
length-push xs y = length-append xs (y ∷ [])

-- a number is put behind the last one, where there is one
abbrev pub linked : List ℕ → ℕ → ℕ → List ℕ
linked next last number = cond (last == 0) next (set next (last - 1) number)

length-linked : (next : List ℕ) (last number : ℕ) → length (linked next last number) ≡ length next
length-linked next last number = by (last == 0)
  where
    by : (b : Bool) → length (cond b next (set next (last - 1) number)) ≡ length next
    by true = refl
    by false = length-set next (last - 1) number

linked-at : (next : List ℕ) (last number k : ℕ) → last ≡ k + 1 → k < length next → get_or (linked next last number) k 0 ≡ number
linked-at next last number k e l =
    let some : (last == 0) ≡ false = ne_eqb last 0 (λ z. omega arith) in
    let place : last - 1 ≡ k = omega arith in
    ap (λ b. get_or (cond b next (set next (last - 1) number)) k 0) some
    ∙ ap (λ i. get_or (set next i number) k 0) place
    ∙ get_or-set_same next k number 0 l

linked-other : (next : List ℕ) (last number k : ℕ) → (last ≡ k + 1 → ⊥) → get_or (linked next last number) k 0 ≡ get_or next k 0
linked-other next last number k d = by (last == 0) refl
  where
    by : (b : Bool) → (last == 0) ≡ b → get_or (cond b next (set next (last - 1) number)) k 0 ≡ get_or next k 0
    by true e = refl
    by false e = let some = eqb-false last 0 e in get_or-set_other next (last - 1) k number 0 (λ z. d (omega arith))

module _ (lanes : List ℕ) (waits : List Bool) (next firsts lasts : List ℕ) (oldest lane : ℕ) (h : IsKept lanes waits next firsts lasts oldest) (bound : lane < LANES) where
  on-same : (x k : ℕ) → k < length lanes → is_on (lanes ++ lane ∷ []) x k ≡ is_on lanes x k
  on-same x k l = ap (λ v. v == x) (read-below lanes lane 0 k l)

  on-last : (x : ℕ) → is_on (lanes ++ lane ∷ []) x (length lanes) ≡ (lane == x)
  on-last x = ap (λ v. v == x) (read-last lanes lane 0 (length lanes) refl)

  waiting-same : (k : ℕ) → k < length lanes → is_waiting (waits ++ true ∷ []) k ≡ is_waiting waits k
  waiting-same k l = read-below waits true false k (omega (arith, h.waits_len))

  waiting-last : is_waiting (waits ++ true ∷ []) (length lanes) ≡ true
  waiting-last = read-last waits true false (length lanes) h.waits_len

  waiting-on-same : (x k : ℕ) → k < length lanes → is_waiting_on (lanes ++ lane ∷ []) (waits ++ true ∷ []) x k ≡ is_waiting_on lanes waits x k
  waiting-on-same x k l = ap (λ b. b && is_on (lanes ++ lane ∷ []) x k) (waiting-same k l) ∙ ap (λ b. is_waiting waits k && b) (on-same x k l)

  waiting-on-last : (x : ℕ) → is_waiting_on (lanes ++ lane ∷ []) (waits ++ true ∷ []) x (length lanes) ≡ (lane == x)
  waiting-on-last x = ap (λ b. b && is_on (lanes ++ lane ∷ []) x (length lanes)) waiting-last ∙ on-last x

  to-end : (t : ℕ → Bool) (from n : ℕ) → IsFirst t from (length lanes + 1) n → IsFirst t from (length (lanes ++ lane ∷ [])) n
  to-end t from n f = let P : ℕ → Type 0 = λ z. IsFirst t from z n in subst P (sym (length-push lanes lane)) f

  to-last : (t : ℕ → Bool) (n : ℕ) → IsLast t (length lanes + 1) n → IsLast t (length (lanes ++ lane ∷ [])) n
  to-last t n f = let P : ℕ → Type 0 = λ z. IsLast t z n in subst P (sym (length-push lanes lane)) f

  first-kept : IsFirst (is_waiting (waits ++ true ∷ [])) 0 (length (lanes ++ lane ∷ [])) (cond (oldest == 0) (length lanes + 1) oldest)
  first-kept =
      to-end (is_waiting (waits ++ true ∷ [])) 0 (cond (oldest == 0) (length lanes + 1) oldest)
      (first-push (is_waiting waits) (is_waiting (waits ++ true ∷ [])) 0 (length lanes) oldest (omega arith) waiting-same waiting-last h.first)

  first_on-kept : (x : ℕ) → x < LANES → IsFirst (is_waiting_on (lanes ++ lane ∷ []) (waits ++ true ∷ []) x) 0 (length (lanes ++ lane ∷ [])) (get_or (set firsts lane (cond (get_or firsts lane 0 == 0) (length lanes + 1) (get_or firsts lane 0))) x 0)
  first_on-kept x l = by (cases_eq x lane)
    where
      by : (x ≡ lane) ⊎ (x ≡ lane → ⊥) → IsFirst (is_waiting_on (lanes ++ lane ∷ []) (waits ++ true ∷ []) x) 0 (length (lanes ++ lane ∷ [])) (get_or (set firsts lane (cond (get_or firsts lane 0 == 0) (length lanes + 1) (get_or firsts lane 0))) x 0)
      by (inl e) =
          let first : ℕ = get_or firsts lane 0 in
          let new : ℕ = cond (first == 0) (length lanes + 1) first in
          let P : ℕ → Type 0 = λ n. IsFirst (is_waiting_on (lanes ++ lane ∷ []) (waits ++ true ∷ []) x) 0 (length (lanes ++ lane ∷ [])) n in
          let Q : ℕ → Type 0 = λ n. IsFirst (is_waiting_on lanes waits x) 0 (length lanes) n in
          let was : IsFirst (is_waiting_on lanes waits x) 0 (length lanes) first = subst Q (ap (λ i. get_or firsts i 0) e) (h.first_on x l) in
          let pushed = first-push (is_waiting_on lanes waits x) (is_waiting_on (lanes ++ lane ∷ []) (waits ++ true ∷ []) x) 0 (length lanes) first (omega arith) (waiting-on-same x) (waiting-on-last x ∙ eq-eqb lane x (sym e)) was in
          let within : lane < length firsts = omega (arith, h.firsts_len) in
          let read : new ≡ get_or (set firsts lane new) x 0 = sym (ap (λ i. get_or (set firsts lane new) i 0) e ∙ get_or-set_same firsts lane new 0 within) in
          subst P read (to-end (is_waiting_on (lanes ++ lane ∷ []) (waits ++ true ∷ []) x) 0 new pushed)
      by (inr d) =
          let first : ℕ = get_or firsts lane 0 in
          let new : ℕ = cond (first == 0) (length lanes + 1) first in
          let P : ℕ → Type 0 = λ n. IsFirst (is_waiting_on (lanes ++ lane ∷ []) (waits ++ true ∷ []) x) 0 (length (lanes ++ lane ∷ [])) n in
          let pushed = first-push_other (is_waiting_on lanes waits x) (is_waiting_on (lanes ++ lane ∷ []) (waits ++ true ∷ []) x) 0 (length lanes) (get_or firsts x 0) (waiting-on-same x) (waiting-on-last x ∙ ne_eqb lane x (λ z. d (sym z))) (h.first_on x l) in
          subst P (sym (get_or-set_other firsts lane x new 0 d)) (to-end (is_waiting_on (lanes ++ lane ∷ []) (waits ++ true ∷ []) x) 0 (get_or firsts x 0) pushed)

  last_on-kept : (x : ℕ) → x < LANES → IsLast (is_on (lanes ++ lane ∷ []) x) (length (lanes ++ lane ∷ [])) (get_or (set lasts lane (length lanes + 1)) x 0)
  last_on-kept x l = by (cases_eq x lane)
    where
      by : (x ≡ lane) ⊎ (x ≡ lane → ⊥) → IsLast (is_on (lanes ++ lane ∷ []) x) (length (lanes ++ lane ∷ [])) (get_or (set lasts lane (length lanes + 1)) x 0)
      by (inl e) =
          let P : ℕ → Type 0 = λ n. IsLast (is_on (lanes ++ lane ∷ []) x) (length (lanes ++ lane ∷ [])) n in
          let within : lane < length lasts = omega (arith, h.lasts_len) in
          let read : length lanes + 1 ≡ get_or (set lasts lane (length lanes + 1)) x 0 = sym (ap (λ i. get_or (set lasts lane (length lanes + 1)) i 0) e ∙ get_or-set_same lasts lane (length lanes + 1) 0 within) in
          subst P read (to-last (is_on (lanes ++ lane ∷ []) x) (length lanes + 1) (last-push (is_on lanes x) (is_on (lanes ++ lane ∷ []) x) (length lanes) 0 (on-last x ∙ eq-eqb lane x (sym e))))
      by (inr d) =
          let P : ℕ → Type 0 = λ n. IsLast (is_on (lanes ++ lane ∷ []) x) (length (lanes ++ lane ∷ [])) n in
          let pushed = last-push_other (is_on lanes x) (is_on (lanes ++ lane ∷ []) x) (length lanes) (get_or lasts x 0) (on-same x) (on-last x ∙ ne_eqb lane x (λ z. d (sym z))) (h.last_on x l) in
          subst P (sym (get_or-set_other lasts lane x (length lanes + 1) 0 d)) (to-last (is_on (lanes ++ lane ∷ []) x) (get_or lasts x 0) pushed)

  -- the chain behind the new number, behind one of its lane, and behind another
  chain-new : IsFirst (is_on (lanes ++ lane ∷ []) lane) (length lanes + 1) (length lanes + 1) 0
  chain-new = record { some = λ p. absurd (omega arith); before = λ k a b f. absurd (omega arith) }

  chain-last : (k : ℕ) → k < length lanes → get_or lasts lane 0 ≡ k + 1 → IsFirst (is_on (lanes ++ lane ∷ []) lane) (k + 1) (length lanes + 1) (length lanes + 1)
  chain-last k l e = record {
    some = λ p. let place : length lanes + 1 - 1 ≡ length lanes = omega arith in (omega arith, omega arith, ap (is_on (lanes ++ lane ∷ []) lane) place ∙ on-last lane ∙ eq-eqb lane lane refl);
    before = λ j a b f. let under = f (omega arith) in on-same lane j (omega arith) ∙ (h.last_on lane bound).behind j (omega arith) (omega arith);
  }

  -- one on the lane that isn't its last has another one behind it
  has-next : (k : ℕ) → k < length lanes → is_on lanes lane k ≡ true → (get_or lasts lane 0 ≡ k + 1 → ⊥) → IsFirst (is_on lanes lane) (k + 1) (length lanes) (get_or next k 0) → (get_or next k 0 == 0) ≡ false
  has-next k l on d f = ne_eqb (get_or next k 0) 0 (λ e. by e (cases_lt k (get_or lasts lane 0)))
    where
      by : get_or next k 0 ≡ 0 → (k < get_or lasts lane 0) ⊎ (get_or lasts lane 0 ≤ k) → ⊥
      by e (inl under) =
          let s = (h.last_on lane bound).some (omega arith) in
          let no = f.before (get_or lasts lane 0 - 1) (omega arith) (omega arith) (λ p. absurd (omega arith)) in
          both_ways (is_on lanes lane (get_or lasts lane 0 - 1)) no s.1
      by e (inr over) = both_ways (is_on lanes lane k) ((h.last_on lane bound).behind k over l) on

  chain-lane : (k : ℕ) → k < length lanes → is_on lanes lane k ≡ true → (get_or lasts lane 0 ≡ k + 1 → ⊥) → IsFirst (is_on lanes lane) (k + 1) (length lanes) (get_or next k 0) → IsFirst (is_on (lanes ++ lane ∷ []) lane) (k + 1) (length lanes + 1) (get_or next k 0)
  chain-lane k l on d f =
      let n : ℕ = get_or next k 0 in
      let P : Bool → Type 0 = λ b. IsFirst (is_on (lanes ++ lane ∷ []) lane) (k + 1) (length lanes + 1) (cond b (length lanes + 1) n) in
      subst P (has-next k l on d f) (first-push (is_on lanes lane) (is_on (lanes ++ lane ∷ []) lane) (k + 1) (length lanes) n (omega arith) (on-same lane) (on-last lane ∙ eq-eqb lane lane refl) f)

  chain-other : (k x : ℕ) → (x ≡ lane → ⊥) → IsFirst (is_on lanes x) (k + 1) (length lanes) (get_or next k 0) → IsFirst (is_on (lanes ++ lane ∷ []) x) (k + 1) (length lanes + 1) (get_or next k 0)
  chain-other k x d f = first-push_other (is_on lanes x) (is_on (lanes ++ lane ∷ []) x) (k + 1) (length lanes) (get_or next k 0) (on-same x) (on-last x ∙ ne_eqb lane x (λ z. d (sym z))) f

  -- the last one of a lane is on it
  last-is : (k : ℕ) → get_or lasts lane 0 ≡ k + 1 → get_or lanes k 0 ≡ lane
  last-is k e =
      let s = (h.last_on lane bound).some (omega arith) in
      let place : get_or lasts lane 0 - 1 ≡ k = omega arith in
      eqb-true (get_or lanes k 0) lane (ap (is_on lanes lane) (sym place) ∙ s.1)

  last-within : get_or lasts lane 0 ≤ length lanes
  last-within = by (cases_eq (get_or lasts lane 0) 0)
    where
      by : (get_or lasts lane 0 ≡ 0) ⊎ (get_or lasts lane 0 ≡ 0 → ⊥) → get_or lasts lane 0 ≤ length lanes
      by (inl e) = omega arith
      by (inr d) = ((h.last_on lane bound).some (omega arith)).0

  next-read : (k : ℕ) → k < length lanes → (get_or lasts lane 0 ≡ k + 1 → ⊥) → get_or (linked (next ++ 0 ∷ []) (get_or lasts lane 0) (length lanes + 1)) k 0 ≡ get_or next k 0
  next-read k l d = linked-other (next ++ 0 ∷ []) (get_or lasts lane 0) (length lanes + 1) k d ∙ read-below next 0 0 k (omega (arith, h.next_len))

  chain-old : (k x : ℕ) → k < length lanes → get_or lanes k 0 ≡ x → IsFirst (is_on (lanes ++ lane ∷ []) x) (k + 1) (length lanes + 1) (get_or (linked (next ++ 0 ∷ []) (get_or lasts lane 0) (length lanes + 1)) k 0)
  chain-old k x l e = by (cases_eq x lane) (cases_eq (get_or lasts lane 0) (k + 1))
    where
      by : (x ≡ lane) ⊎ (x ≡ lane → ⊥) → (get_or lasts lane 0 ≡ k + 1) ⊎ (get_or lasts lane 0 ≡ k + 1 → ⊥) → IsFirst (is_on (lanes ++ lane ∷ []) x) (k + 1) (length lanes + 1) (get_or (linked (next ++ 0 ∷ []) (get_or lasts lane 0) (length lanes + 1)) k 0)
      by (inl on) (inl here) =
          let P : ℕ → Type 0 = λ n. IsFirst (is_on (lanes ++ lane ∷ []) x) (k + 1) (length lanes + 1) n in
          let Q : ℕ → Type 0 = λ z. IsFirst (is_on (lanes ++ lane ∷ []) z) (k + 1) (length lanes + 1) (length lanes + 1) in
          let long : length (next ++ 0 ∷ []) ≡ length next + 1 = length-push next 0 in
          subst P (sym (linked-at (next ++ 0 ∷ []) (get_or lasts lane 0) (length lanes + 1) k here (omega (arith, h.next_len)))) (subst Q (sym on) (chain-last k l here))
      by (inl on) (inr d) =
          let P : ℕ → Type 0 = λ n. IsFirst (is_on (lanes ++ lane ∷ []) x) (k + 1) (length lanes + 1) n in
          let Q : ℕ → Type 0 = λ z. IsFirst (is_on (lanes ++ lane ∷ []) z) (k + 1) (length lanes + 1) (get_or next k 0) in
          let R : ℕ → Type 0 = λ z. IsFirst (is_on lanes z) (k + 1) (length lanes) (get_or next k 0) in
          subst P (sym (next-read k l d)) (subst Q (sym on) (chain-lane k l (eq-eqb (get_or lanes k 0) lane (e ∙ on)) d (subst R (e ∙ on) (h.chained k l))))
      by (inr off) (inl here) = absurd (off (sym e ∙ last-is k here))
      by (inr off) (inr d) =
          let P : ℕ → Type 0 = λ n. IsFirst (is_on (lanes ++ lane ∷ []) x) (k + 1) (length lanes + 1) n in
          let R : ℕ → Type 0 = λ z. IsFirst (is_on lanes z) (k + 1) (length lanes) (get_or next k 0) in
          subst P (sym (next-read k l d)) (chain-other k x off (subst R e (h.chained k l)))

  chain-kept : (k : ℕ) → k < length (lanes ++ lane ∷ []) → IsFirst (is_on (lanes ++ lane ∷ []) (get_or (lanes ++ lane ∷ []) k 0)) (k + 1) (length (lanes ++ lane ∷ [])) (get_or (linked (next ++ 0 ∷ []) (get_or lasts lane 0) (length lanes + 1)) k 0)
  chain-kept k l = to-end (is_on (lanes ++ lane ∷ []) (get_or (lanes ++ lane ∷ []) k 0)) (k + 1) (get_or (linked (next ++ 0 ∷ []) (get_or lasts lane 0) (length lanes + 1)) k 0) (by (cases_eq k (length lanes)))
    where
      by : (k ≡ length lanes) ⊎ (k ≡ length lanes → ⊥) → IsFirst (is_on (lanes ++ lane ∷ []) (get_or (lanes ++ lane ∷ []) k 0)) (k + 1) (length lanes + 1) (get_or (linked (next ++ 0 ∷ []) (get_or lasts lane 0) (length lanes + 1)) k 0)
      by (inl e) =
          let on : lane ≡ get_or (lanes ++ lane ∷ []) k 0 = sym (read-last lanes lane 0 k (sym e)) in
          let from : length lanes + 1 ≡ k + 1 = ap (λ z. z + 1) (sym e) in
          let none : 0 ≡ get_or (linked (next ++ 0 ∷ []) (get_or lasts lane 0) (length lanes + 1)) k 0 =
          sym (linked-other (next ++ 0 ∷ []) (get_or lasts lane 0) (length lanes + 1) k (λ z. let w = last-within in omega arith) ∙ read-last next 0 0 k (h.next_len ∙ sym e)) in
          let A : ℕ → Type 0 = λ z. IsFirst (is_on (lanes ++ lane ∷ []) z) (length lanes + 1) (length lanes + 1) 0 in
          let B : ℕ → Type 0 = λ z. IsFirst (is_on (lanes ++ lane ∷ []) (get_or (lanes ++ lane ∷ []) k 0)) z (length lanes + 1) 0 in
          let C : ℕ → Type 0 = λ z. IsFirst (is_on (lanes ++ lane ∷ []) (get_or (lanes ++ lane ∷ []) k 0)) (k + 1) (length lanes + 1) z in
          subst C none (subst B from (subst A on chain-new))
      by (inr d) =
          let under : k < length lanes = let long : length (lanes ++ lane ∷ []) ≡ length lanes + 1 = length-push lanes lane in omega arith in
          chain-old k (get_or (lanes ++ lane ∷ []) k 0) under (sym (read-below lanes lane 0 k under))

  low-kept : (k : ℕ) → k < length (lanes ++ lane ∷ []) → get_or (lanes ++ lane ∷ []) k 0 < LANES
  low-kept k l = by (cases_eq k (length lanes))
    where
      by : (k ≡ length lanes) ⊎ (k ≡ length lanes → ⊥) → get_or (lanes ++ lane ∷ []) k 0 < LANES
      by (inl e) = omega (arith, bound, read-last lanes lane 0 k (sym e))
      by (inr d) =
          let under : k < length lanes = let long : length (lanes ++ lane ∷ []) ≡ length lanes + 1 = length-push lanes lane in omega arith in
          omega (arith, h.low.each k under, read-below lanes lane 0 k under)

  pub kept-push : length lanes < NUMBERS → IsKept (lanes ++ lane ∷ []) (waits ++ true ∷ []) (linked (next ++ 0 ∷ []) (get_or lasts lane 0) (length lanes + 1)) (set firsts lane (cond (get_or firsts lane 0 == 0) (length lanes + 1) (get_or firsts lane 0))) (set lasts lane (length lanes + 1)) (cond (oldest == 0) (length lanes + 1) oldest)
  kept-push few = record {
    few = let long = length-push lanes lane in omega arith;
    waits_len = length-push waits true ∙ ap (λ z. z + 1) h.waits_len ∙ sym (length-push lanes lane);
    next_len = length-linked (next ++ 0 ∷ []) (get_or lasts lane 0) (length lanes + 1) ∙ length-push next 0 ∙ ap (λ z. z + 1) h.next_len ∙ sym (length-push lanes lane);
    firsts_len = length-set firsts lane (cond (get_or firsts lane 0 == 0) (length lanes + 1) (get_or firsts lane 0)) ∙ h.firsts_len;
    lasts_len = length-set lasts lane (length lanes + 1) ∙ h.lasts_len;
    low = record { each = low-kept };
    chained = chain-kept;
    last_on = last_on-kept;
    first_on = first_on-kept;
    first = first-kept;
  }
