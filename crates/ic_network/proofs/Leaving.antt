-- What is kept of the lanes once a number waits no longer.
use Rattle.std.proofs.Common.{◌≡◌, ◌∙◌, sym, ap, subst, refl, ℕ, ◌-◌, ◌<◌, ◌==◌, Bool, true, false, cond, zero, suc, ◌⊎◌, inl, inr, List, [], ◌∷◌, length, get_or, set, replicate, arith}
use Rattle.std.specs.Prelude.{◌&&◌}
use Rattle.std.proofs.lemmas.Bool.{cases_eq, eq-eqb, ne_eqb, both_ways}
use Rattle.std.proofs.lemmas.List.{length-set, length-replicate, get_or-replicate, get_or-set_same, get_or-set_other}
use Rattle.ic_network.specs.declared.lanes.TheConstants.{LANES}
use Rattle.ic_network.specs.Lanes.{is_waiting, is_on, is_waiting_on, without_wait, IsFirst, IsLast}
use Rattle.ic_network.specs.Kept.{IsKept}
use Rattle.ic_network.proofs.Firsts.{first-same, first-off_other}

-- the same of parts that are equal
pub kept-same : (lanes as_lanes : List ℕ) (waits as_waits : List Bool) (next as_next firsts as_firsts lasts as_lasts : List ℕ) (oldest as_oldest : ℕ) → lanes ≡ as_lanes → waits ≡ as_waits → next ≡ as_next → firsts ≡ as_firsts → lasts ≡ as_lasts → oldest ≡ as_oldest → IsKept as_lanes as_waits as_next as_firsts as_lasts as_oldest → IsKept lanes waits next firsts lasts oldest
kept-same lanes as_lanes waits as_waits next as_next firsts as_firsts lasts as_lasts oldest as_oldest l w n f t o h =
    let A : List ℕ → Type 0 = λ z. IsKept z waits next firsts lasts oldest in
    let B : List Bool → Type 0 = λ z. IsKept as_lanes z next firsts lasts oldest in
    let C : List ℕ → Type 0 = λ z. IsKept as_lanes as_waits z firsts lasts oldest in
    let D : List ℕ → Type 0 = λ z. IsKept as_lanes as_waits as_next z lasts oldest in
    let E : List ℕ → Type 0 = λ z. IsKept as_lanes as_waits as_next as_firsts z oldest in
    let F : ℕ → Type 0 = λ z. IsKept as_lanes as_waits as_next as_firsts as_lasts z in
    subst A (sym l) (subst B (sym w) (subst C (sym n) (subst D (sym f) (subst E (sym t) (subst F (sym o) h)))))

-- the tests once the number at place i waits no longer
module _ (lanes : List ℕ) (waits : List Bool) (i : ℕ) where
  pub off-same : (k : ℕ) → (k ≡ i → ⊥) → is_waiting (set waits i false) k ≡ is_waiting waits k
  off-same k d = get_or-set_other waits i k false false d

  pub off-here : is_waiting (set waits i false) i ≡ false
  off-here = by waits i
    where
      by : (ws : List Bool) (j : ℕ) → get_or (set ws j false) j false ≡ false
      by [] j = refl
      by (w ∷ ws) zero = refl
      by (w ∷ ws) (suc j) = by ws j

  pub off_on-same : (x k : ℕ) → (k ≡ i → ⊥) → is_waiting_on lanes (set waits i false) x k ≡ is_waiting_on lanes waits x k
  off_on-same x k d = ap (λ b. b && is_on lanes x k) (off-same k d)

  pub off_on-here : (x : ℕ) → is_waiting_on lanes (set waits i false) x i ≡ false
  off_on-here x = ap (λ b. b && is_on lanes x i) off-here

  -- on another lane nothing changes
  pub off_on-other : (x k : ℕ) → (get_or lanes i 0 ≡ x → ⊥) → is_waiting_on lanes (set waits i false) x k ≡ is_waiting_on lanes waits x k
  off_on-other x k d = by (cases_eq k i)
    where
      none : (b : Bool) → (b && is_on lanes x i) ≡ false
      none true = ne_eqb (get_or lanes i 0) x d
      none false = refl

      by : (k ≡ i) ⊎ (k ≡ i → ⊥) → is_waiting_on lanes (set waits i false) x k ≡ is_waiting_on lanes waits x k
      by (inl e) = ap (λ j. is_waiting_on lanes (set waits i false) x j) e ∙ none (is_waiting (set waits i false) i) ∙ sym (none (is_waiting waits i)) ∙ ap (λ j. is_waiting_on lanes waits x j) (sym e)
      by (inr e) = off_on-same x k e

module _ (lanes : List ℕ) (waits : List Bool) (next firsts lasts : List ℕ) (oldest i lane first now : ℕ) (h : IsKept lanes waits next firsts lasts oldest) (bound : lane < LANES) (is : get_or lanes i 0 ≡ lane) where
  first_on-off : IsFirst (is_waiting_on lanes (set waits i false) lane) 0 (length waits) first → (x : ℕ) → x < LANES → IsFirst (is_waiting_on lanes (set waits i false) x) 0 (length lanes) (get_or (set firsts lane first) x 0)
  first_on-off f x l = by (cases_eq x lane)
    where
      by : (x ≡ lane) ⊎ (x ≡ lane → ⊥) → IsFirst (is_waiting_on lanes (set waits i false) x) 0 (length lanes) (get_or (set firsts lane first) x 0)
      by (inl e) =
          let P : ℕ → Type 0 = λ n. IsFirst (is_waiting_on lanes (set waits i false) x) 0 (length lanes) n in
          let Q : ℕ → Type 0 = λ z. IsFirst (is_waiting_on lanes (set waits i false) z) 0 (length lanes) first in
          let R : ℕ → Type 0 = λ z. IsFirst (is_waiting_on lanes (set waits i false) lane) 0 z first in
          let within : lane < length firsts = omega (arith, h.firsts_len) in
          subst P (sym (ap (λ j. get_or (set firsts lane first) j 0) e ∙ get_or-set_same firsts lane first 0 within)) (subst Q (sym e) (subst R h.waits_len f))
      by (inr d) =
          let P : ℕ → Type 0 = λ n. IsFirst (is_waiting_on lanes (set waits i false) x) 0 (length lanes) n in
          subst P (sym (get_or-set_other firsts lane x first 0 d))
          (first-same (is_waiting_on lanes waits x) (is_waiting_on lanes (set waits i false) x) 0 (length lanes) (get_or firsts x 0) (λ k b. off_on-other lanes waits i x k (λ z. d (sym z ∙ is))) (h.first_on x l))

  pub kept-off : IsFirst (is_waiting (set waits i false)) 0 (length waits) now → IsFirst (is_waiting_on lanes (set waits i false) lane) 0 (length waits) first → IsKept lanes (set waits i false) next (set firsts lane first) lasts now
  kept-off o f = record {
    few = h.few;
    waits_len = length-set waits i false ∙ h.waits_len;
    next_len = h.next_len;
    firsts_len = length-set firsts lane first ∙ h.firsts_len;
    lasts_len = h.lasts_len;
    low = h.low;
    chained = h.chained;
    last_on = h.last_on;
    first_on = first_on-off f;
    first = let R : ℕ → Type 0 = λ z. IsFirst (is_waiting (set waits i false)) 0 z now in subst R h.waits_len o;
  }

-- a number that waits is one of the numbers
pub waits-some : (waits : List Bool) (number : ℕ) → cond (number == 0) false (is_waiting waits (number - 1)) ≡ true → number ≡ 0 → ⊥
waits-some waits number w e = both_ways (cond (number == 0) false (is_waiting waits (number - 1))) (ap (λ b. cond b false (is_waiting waits (number - 1))) (eq-eqb number 0 e)) w

-- the first number that waits on a lane is still the first one where another one waits no longer
pub first-other : (lanes : List ℕ) (waits : List Bool) (lane number first : ℕ) → 0 < number → (first ≡ number → ⊥) → IsFirst (is_waiting_on lanes waits lane) 0 (length waits) first → IsFirst (is_waiting_on lanes (without_wait number waits) lane) 0 (length waits) first
first-other lanes waits lane number first some other h =
    let off : without_wait number waits ≡ set waits (number - 1) false = ap (λ b. cond b waits (set waits (number - 1) false)) (ne_eqb number 0 (λ e. omega arith)) in
    let P : List Bool → Type 0 = λ ws. IsFirst (is_waiting_on lanes ws lane) 0 (length waits) first in
    subst P (sym off) (first-off_other (is_waiting_on lanes waits lane) (is_waiting_on lanes (set waits (number - 1) false) lane) 0 (length waits) first (number - 1) (λ e. other (omega arith)) (off_on-same lanes waits (number - 1) lane) (off_on-here lanes waits (number - 1) lane) h)

-- before the first number
pub kept-none : (n : ℕ) (firsts lasts : List ℕ) → n ≡ LANES → firsts ≡ replicate n 0 → lasts ≡ replicate n 0 → IsKept [] [] [] firsts lasts 0
kept-none n firsts lasts e f l = record {
  few = omega arith;
  waits_len = refl;
  next_len = refl;
  firsts_len = ap length f ∙ length-replicate n 0 ∙ e;
  lasts_len = ap length l ∙ length-replicate n 0 ∙ e;
  low = record { each = λ k under. absurd (omega arith) };
  chained = λ k under. absurd (omega arith);
  last_on = λ lane under.
      let P : ℕ → Type 0 = λ z. IsLast (is_on [] lane) 0 z in
      subst P (sym (none lasts lane l under)) (record { some = λ p. absurd (omega arith); behind = λ k a b. absurd (omega arith) });
  first_on = λ lane under.
      let P : ℕ → Type 0 = λ z. IsFirst (is_waiting_on [] [] lane) 0 0 z in
      subst P (sym (none firsts lane f under)) (record { some = λ p. absurd (omega arith); before = λ k a b g. absurd (omega arith) });
  first = record { some = λ p. absurd (omega arith); before = λ k a b g. absurd (omega arith) };
}
  where
    none : (xs : List ℕ) (lane : ℕ) → xs ≡ replicate n 0 → lane < LANES → get_or xs lane 0 ≡ 0
    none xs lane z under = ap (λ ys. get_or ys lane 0) z ∙ get_or-replicate n lane 0 0 (omega arith)
