-- What is kept of the lanes so that no call looks for a number.
use Rattle.std.specs.Prelude.{◌≡◌, ℕ, ◌+◌, ◌-◌, ◌<◌, ◌≤◌, Bool, true, false, List, length, slice_index_or}
use Rattle.ic_network.specs.declared.lanes.TheConstants.{LANES, NUMBERS}
use Rattle.ic_network.specs.Lanes.{is_waiting, is_on, is_waiting_on, IsFirst, IsLast}

-- each number is on one of the lanes
pub record AreLow (lanes : List ℕ) : Type 0 where
  pub each : (k : ℕ) → k < length lanes → slice_index_or lanes k 0 < LANES

pub record IsKept (lanes : List ℕ) (waits : List Bool) (next firsts lasts : List ℕ) (oldest : ℕ) : Type 0 where
  pub few : length lanes ≤ NUMBERS
  pub waits_len : length waits ≡ length lanes
  pub next_len : length next ≡ length lanes
  pub firsts_len : length firsts ≡ LANES
  pub lasts_len : length lasts ≡ LANES
  pub low : AreLow lanes
  -- behind each number the next one on its lane
  pub chained : (k : ℕ) → k < length lanes → IsFirst (is_on lanes (slice_index_or lanes k 0)) (k + 1) (length lanes) (slice_index_or next k 0)
  pub last_on : (lane : ℕ) → lane < LANES → IsLast (is_on lanes lane) (length lanes) (slice_index_or lasts lane 0)
  pub first_on : (lane : ℕ) → lane < LANES → IsFirst (is_waiting_on lanes waits lane) 0 (length lanes) (slice_index_or firsts lane 0)
  pub first : IsFirst (is_waiting waits) 0 (length lanes) oldest

-- a walk along a lane behind a number came so far, and passed none that waits
pub record IsWalked (lanes : List ℕ) (waits : List Bool) (lane number at : ℕ) : Type 0 where
  pub here : 0 < at → (number < at) × (at ≤ length lanes) × (is_on lanes lane (at - 1) ≡ true)
  pub passed : (k : ℕ) → number ≤ k → k < length lanes → (0 < at → k + 1 < at) → is_waiting_on lanes waits lane k ≡ false
