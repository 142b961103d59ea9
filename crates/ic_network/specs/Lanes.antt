-- Numbers from 1 on, each on one lane, and which of them wait.
use Rattle.std.specs.Prelude.{◌≡◌, ℕ, ◌+◌, ◌-◌, ◌<◌, ◌≤◌, ◌==◌, Bool, true, false, ◌&&◌, cond, List, [], ◌∷◌, Option, Some, None, slice_set, slice_index_or}

-- the lane of each number, whether it waits, and for how many more there is room
pub record Lanes : Type 0 where
  pub lanes : List ℕ
  pub waits : List Bool
  pub spare : ℕ

-- the numbers that wait, where the first one is n
abbrev pub numbers_from : ℕ → List Bool → List ℕ
numbers_from n [] = []
numbers_from n (w ∷ ws) = cond w (n ∷ numbers_from (n + 1) ws) (numbers_from (n + 1) ws)

-- whether the number at a place, counted from 0, waits, and whether it is on a lane
abbrev pub is_waiting : List Bool → ℕ → Bool
is_waiting waits k = slice_index_or waits k false

abbrev pub is_on : List ℕ → ℕ → ℕ → Bool
is_on lanes lane k = slice_index_or lanes k 0 == lane

abbrev pub is_waiting_on : List ℕ → List Bool → ℕ → ℕ → Bool
is_waiting_on lanes waits lane k = is_waiting waits k && is_on lanes lane k

-- whether a number waits
abbrev pub waits_as : List Bool → ℕ → Bool
waits_as waits number = cond (number == 0) false (is_waiting waits (number - 1))

-- the number waits no longer
abbrev pub without_wait : ℕ → List Bool → List Bool
without_wait number waits = cond (number == 0) waits (slice_set waits (number - 1) false)

-- 0 stands for none
abbrev pub if_some : ℕ → Option ℕ
if_some number = cond (number == 0) None (Some number)

-- the first number of which a test of its place is true, from one place up to another; 0 where there is none
pub record IsFirst (test : ℕ → Bool) (from end number : ℕ) : Type 0 where
  pub some : 0 < number → (from < number) × (number ≤ end) × (test (number - 1) ≡ true)
  pub before : (k : ℕ) → from ≤ k → k < end → (0 < number → k + 1 < number) → test k ≡ false

-- the last number of which a test of its place is true; 0 where there is none
pub record IsLast (test : ℕ → Bool) (end number : ℕ) : Type 0 where
  pub some : 0 < number → (number ≤ end) × (test (number - 1) ≡ true)
  pub behind : (k : ℕ) → number ≤ k → k < end → test k ≡ false
