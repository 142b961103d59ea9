-- When a call of a disk, a text or a sink may fail, and what then stands.
use Rattle.std.specs.Prelude.{◌≡◌, ℕ, ◌+◌, ◌-◌, ◌^◌, ◌<◌, ◌≤◌, Bool, nat_le, min, List, ◌++◌, length, take, Option, Some, Result, Err}
use Rattle.ic_disk.specs.declared.disk.DiskError.{DiskError}
use Rattle.ic_disk.specs.declared.disk.DiskError.TheVariants.{Failed, Stopped}

-- a count of faults rose; one that stands at its last value counts as risen
abbrev pub Rose : ℕ → ℕ → Type 0
Rose before now = min (before + 1) (2 ^ 64 - 1) ≤ now

-- whether it did
abbrev pub has_risen : ℕ → ℕ → Bool
has_risen before now = nat_le (min (before + 1) (2 ^ 64 - 1)) now

-- `Failed` is answered only where the count of faults rose in the call, `Stopped` only where the disk stands stopped as it ends
pub record IsCaused {T : Type 0} (before now : ℕ) (stopped : Type 0) (result : Result T DiskError) : Type 0 where
  pub later : before ≤ now
  pub failed : result ≡ Err Failed → Rose before now
  pub halted : result ≡ Err Stopped → stopped

-- the text is there, and has more bytes than the limit
abbrev pub IsTooLong : Option (List ℕ) → ℕ → Type 0
IsTooLong text limit = (bytes : List ℕ) × (text ≡ Some bytes) × (limit < length bytes)

-- a front of the piece stands behind what was taken before
abbrev pub IsFront : List ℕ → List ℕ → List ℕ → Type 0
IsFront before piece now = (n : ℕ) × (now ≡ before ++ take n piece)
