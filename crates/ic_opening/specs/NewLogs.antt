-- What is written as a new log.
use Rattle.std.specs.Prelude.{◌≡◌, ◌≤◌, ℕ, List, length, take, slice_get, Some}
use Rattle.ic_base.specs.declared.limits.TheConstants.{LOG_BYTES}
use Rattle.def_log.specs.Frame.{letters}

-- a file within the limit that begins as a log does
pub record IsNewLog (log : List ℕ) : Type 0 where
  pub first : take 1 log ≡ take 1 letters
  pub short : length log ≤ LOG_BYTES

abbrev pub AreNewLogs : List (List ℕ) → Type 0
AreNewLogs logs = (i : ℕ) (log : List ℕ) → slice_get logs i ≡ Some log → IsNewLog log
