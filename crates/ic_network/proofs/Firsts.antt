-- The first number that passes a test behind an edit of the test, and the last one.
use Rattle.std.proofs.Common.{◌≡◌, ◌∙◌, ap, refl, ℕ, ◌+◌, ◌-◌, ◌<◌, ◌≤◌, ◌==◌, Bool, true, false, cond, ◌⊎◌, inl, inr, arith}
use Rattle.std.proofs.lemmas.Bool.{cases_eq, cases_lt, eqb-true, eqb-false}
use Rattle.std.proofs.Common.{subst, List, length, get_or}
use Rattle.std.proofs.lemmas.Bool.{and_left, and_right}
use Rattle.ic_network.specs.Lanes.{is_waiting, is_on, is_waiting_on, IsFirst, IsLast}
use Rattle.ic_network.specs.Kept.{IsWalked}

module _ (t u : ℕ → Bool) (from end n : ℕ) where
  pub first-same : ((k : ℕ) → k < end → u k ≡ t k) → IsFirst t from end n → IsFirst u from end n
  first-same same h = record {
    some = λ p. let s = h.some p in (s.0, s.1, same (n - 1) (omega arith) ∙ s.2);
    before = λ k a b f. same k b ∙ h.before k a b f;
  }

  -- one number more, which passes
  pub first-push : from ≤ end → ((k : ℕ) → k < end → u k ≡ t k) → u end ≡ true → IsFirst t from end n → IsFirst u from (end + 1) (cond (n == 0) (end + 1) n)
  first-push l same last h = by (n == 0) refl
    where
      by : (b : Bool) → (n == 0) ≡ b → IsFirst u from (end + 1) (cond b (end + 1) n)
      by true e = record {
        some = λ p. let place : end + 1 - 1 ≡ end = omega arith in (omega arith, omega arith, ap u place ∙ last);
        before = λ k a b f. let none = eqb-true n 0 e in let under = f (omega arith) in same k (omega arith) ∙ h.before k a (omega arith) (λ p. absurd (omega arith));
      }
      by false e = let some = eqb-false n 0 e in record {
        some = λ p. let s = h.some p in (s.0, omega arith, same (n - 1) (omega arith) ∙ s.2);
        before = λ k a b f. let under = f (omega arith) in let s = h.some (omega arith) in same k (omega arith) ∙ h.before k a (omega arith) (λ _. under);
      }

  -- one number more, which doesn't pass
  pub first-push_other : ((k : ℕ) → k < end → u k ≡ t k) → u end ≡ false → IsFirst t from end n → IsFirst u from (end + 1) n
  first-push_other same last h = record {
    some = λ p. let s = h.some p in (s.0, omega arith, same (n - 1) (omega arith) ∙ s.2);
    before = λ k a b f. by k a b f (cases_eq k end);
  }
    where
      by : (k : ℕ) → from ≤ k → k < end + 1 → (0 < n → k + 1 < n) → (k ≡ end) ⊎ (k ≡ end → ⊥) → u k ≡ false
      by k a b f (inl e) = ap u e ∙ last
      by k a b f (inr e) = same k (omega arith) ∙ h.before k a (omega arith) f

  -- another number passes no longer
  pub first-off_other : (i : ℕ) → (n ≡ i + 1 → ⊥) → ((k : ℕ) → (k ≡ i → ⊥) → u k ≡ t k) → u i ≡ false → IsFirst t from end n → IsFirst u from end n
  first-off_other i other same off h = record {
    some = λ p. let s = h.some p in (s.0, s.1, same (n - 1) (λ e. other (omega arith)) ∙ s.2);
    before = λ k a b f. by k a b f (cases_eq k i);
  }
    where
      by : (k : ℕ) → from ≤ k → k < end → (0 < n → k + 1 < n) → (k ≡ i) ⊎ (k ≡ i → ⊥) → u k ≡ false
      by k a b f (inl e) = ap u e ∙ off
      by k a b f (inr e) = same k e ∙ h.before k a b f

-- the first number passes no longer, and this one is the first behind it
pub first-off : (t u : ℕ → Bool) (from end i m : ℕ) → ((k : ℕ) → (k ≡ i → ⊥) → u k ≡ t k) → u i ≡ false → IsFirst t from end (i + 1) → IsFirst t (i + 1) end m → IsFirst u from end m
first-off t u from end i m same off h behind = record {
  some = λ p. let s = behind.some p in let first = h.some (omega arith) in (omega arith, s.1, same (m - 1) (λ e. omega arith) ∙ s.2);
  before = λ k a b f. by k a b f (cases_eq k i);
}
  where
    by : (k : ℕ) → from ≤ k → k < end → (0 < m → k + 1 < m) → (k ≡ i) ⊎ (k ≡ i → ⊥) → u k ≡ false
    by k a b f (inl e) = ap u e ∙ off
    by k a b f (inr e) = same k e ∙ side (cases_lt k i)
      where
        side : (k < i) ⊎ (i ≤ k) → t k ≡ false
        side (inl l) = h.before k a b (λ p. omega arith)
        side (inr l) = behind.before k (omega arith) b f

module _ (t u : ℕ → Bool) (end n : ℕ) where
  pub last-push : u end ≡ true → IsLast u (end + 1) (end + 1)
  last-push last = record { some = λ p. let place : end + 1 - 1 ≡ end = omega arith in (omega arith, ap u place ∙ last); behind = λ k a b. absurd (omega arith) }

  pub last-push_other : ((k : ℕ) → k < end → u k ≡ t k) → u end ≡ false → IsLast t end n → IsLast u (end + 1) n
  last-push_other same last h = record {
    some = λ p. let s = h.some p in (omega arith, same (n - 1) (omega arith) ∙ s.1);
    behind = λ k a b. by k a b (cases_eq k end);
  }
    where
      by : (k : ℕ) → n ≤ k → k < end + 1 → (k ≡ end) ⊎ (k ≡ end → ⊥) → u k ≡ false
      by k a b (inl e) = ap u e ∙ last
      by k a b (inr e) = same k (omega arith) ∙ h.behind k a (omega arith)

-- a walk along a lane goes on to the next number there
pub walk-on : (lanes : List ℕ) (waits : List Bool) (lane number at new : ℕ) → 0 < at → IsWalked lanes waits lane number at → is_waiting waits (at - 1) ≡ false → IsFirst (is_on lanes (get_or lanes (at - 1) 0)) (at - 1 + 1) (length lanes) new → IsWalked lanes waits lane number new
walk-on lanes waits lane number at new some w off f =
    let here = w.here some in
    let First : ℕ → Type 0 = λ x. IsFirst (is_on lanes x) (at - 1 + 1) (length lanes) new in
    let next = subst First (eqb-true (get_or lanes (at - 1) 0) lane here.2) f in
    record {
      here = λ p. let s = next.some p in (omega (arith, here.0, s.0), s.1, s.2);
      passed = λ k a b c. by next k a b c (cases_eq k (at - 1)) (cases_lt k at);
    }
  where
    by : IsFirst (is_on lanes lane) (at - 1 + 1) (length lanes) new → (k : ℕ) → number ≤ k → k < length lanes → (0 < new → k + 1 < new) → (k ≡ at - 1) ⊎ (k ≡ at - 1 → ⊥) → (k < at) ⊎ (at ≤ k) → is_waiting_on lanes waits lane k ≡ false
    by next k a b c (inl e) side = and_left (is_waiting waits k) (is_on lanes lane k) (ap (is_waiting waits) e ∙ off)
    by next k a b c (inr d) (inl l) = w.passed k a b (λ p. omega arith)
    by next k a b c (inr d) (inr l) = and_right (is_waiting waits k) (is_on lanes lane k) (next.before k (omega arith) b c)
