-- How many numbers wait.
use Rattle.std.proofs.Common.{◌≡◌, ◌∙◌, sym, ap, refl, ℕ, zero, suc, ◌+◌, ◌-◌, ◌≤◌, ◌==◌, Bool, true, false, cond, List, [], ◌∷◌, length, set, arith}
use Rattle.ic_network.specs.Lanes.{numbers_from, is_waiting, waits_as, without_wait}

pub few-wait : (n : ℕ) (waits : List Bool) → length (numbers_from n waits) ≤ length waits
few-wait n [] = omega arith
few-wait n (x ∷ ws) = by x (few-wait (n + 1) ws)
  where
    by : (b : Bool) → length (numbers_from (n + 1) ws) ≤ length ws → length (cond b (n ∷ numbers_from (n + 1) ws) (numbers_from (n + 1) ws)) ≤ suc (length ws)
    by true few = omega (arith, few)
    by false few = omega (arith, few)

one-less : (n i : ℕ) (waits : List Bool) → is_waiting waits i ≡ true → length (numbers_from n (set waits i false)) + 1 ≡ length (numbers_from n waits)
one-less n i [] e = absurd (cc)
one-less n zero (x ∷ ws) e =
    let more : length (numbers_from (n + 1) ws) + 1 ≡ suc (length (numbers_from (n + 1) ws)) = omega arith in
    more ∙ sym (ap (λ b. length (cond b (n ∷ numbers_from (n + 1) ws) (numbers_from (n + 1) ws))) e)
one-less n (suc i) (x ∷ ws) e = by x (one-less (n + 1) i ws e)
  where
    by : (b : Bool) → length (numbers_from (n + 1) (set ws i false)) + 1 ≡ length (numbers_from (n + 1) ws) → length (cond b (n ∷ numbers_from (n + 1) (set ws i false)) (numbers_from (n + 1) (set ws i false))) + 1 ≡ length (cond b (n ∷ numbers_from (n + 1) ws) (numbers_from (n + 1) ws))
    by true less = omega (arith, less)
    by false less = less

none-less : (n i : ℕ) (waits : List Bool) → is_waiting waits i ≡ false → numbers_from n (set waits i false) ≡ numbers_from n waits
none-less n i [] e = refl
none-less n zero (x ∷ ws) e = sym (ap (λ b. cond b (n ∷ numbers_from (n + 1) ws) (numbers_from (n + 1) ws)) e)
none-less n (suc i) (x ∷ ws) e = ap (λ l. cond x (n ∷ l) l) (none-less (n + 1) i ws e)

-- one that waited is taken off
pub fewer-wait : (number : ℕ) (waits : List Bool) → waits_as waits number ≡ true → length (numbers_from 1 (without_wait number waits)) + 1 ≡ length (numbers_from 1 waits)
fewer-wait number waits = by (number == 0)
  where
    by : (b : Bool) → cond b false (is_waiting waits (number - 1)) ≡ true → length (numbers_from 1 (cond b waits (set waits (number - 1) false))) + 1 ≡ length (numbers_from 1 waits)
    by true e = absurd (cc)
    by false e = one-less 1 (number - 1) waits e

-- one that didn't wait is not
pub as-many-wait : (number : ℕ) (waits : List Bool) → waits_as waits number ≡ false → length (numbers_from 1 (without_wait number waits)) ≡ length (numbers_from 1 waits)
as-many-wait number waits = by (number == 0)
  where
    by : (b : Bool) → cond b false (is_waiting waits (number - 1)) ≡ false → length (numbers_from 1 (cond b waits (set waits (number - 1) false))) ≡ length (numbers_from 1 waits)
    by true e = refl
    by false e = ap length (none-less 1 (number - 1) waits e)
