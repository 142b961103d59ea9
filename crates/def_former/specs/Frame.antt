-- What the bytes of a log of the former format stand for: open batches behind a header of letters and a fingerprint, up to the first
-- gate that is closed.
use Rattle.std.specs.Prelude.{◌≡◌, ◌≢◌, ℕ, ◌≤◌, List, length, take, Option, Some, None, Result, Err, nat_lt, if◌then◌else◌, codes}
use Rattle.ic_base.specs.declared.record.Batch.{Batch}
use Rattle.def_log.specs.Frame.{batches_at, first_difference, fingerprint_in}
use Rattle.def_former.specs.declared.limits.TheConstants.{FORMER_GATE, FORMER_LOG_BYTES}

-- the letters at the front of each log of the former format
abbrev pub former_letters : List ℕ
former_letters = codes "ICLOG001"

-- where the letters or the header are cut or wrong, and what stands behind them
abbrev pub behind_former_letters : Result (List Batch) ℕ → List ℕ → Option ℕ → Result (List Batch) ℕ
behind_former_letters behind bytes (Some place) = Err place
behind_former_letters behind bytes None = if nat_lt (length bytes) FORMER_GATE then Err (length bytes) else behind

-- what stands behind a header, if the file isn't too long and has a header
abbrev pub behind_former_header : Result (List Batch) ℕ → List ℕ → Result (List Batch) ℕ
behind_former_header behind bytes =
    if nat_lt FORMER_LOG_BYTES (length bytes) then Err FORMER_LOG_BYTES else behind_former_letters behind bytes (first_difference former_letters (take 8 bytes))

-- The open batches of a log of the former format, or the place at which its frame is refused: its length, its letters, its header's
-- length, its batches.
unfoldable pub former_frame_of : List ℕ → Result (List Batch) ℕ
former_frame_of bytes = behind_former_header (batches_at FORMER_GATE bytes) bytes

-- the header can be read: the log isn't too long, and the letters and a fingerprint are there
pub record IsFormerHeader (bytes : List ℕ) : Type 0 where
  pub short : length bytes ≤ FORMER_LOG_BYTES
  pub header : FORMER_GATE ≤ length bytes
  pub letters : take 8 bytes ≡ former_letters

-- the log is of another scenario, whose fingerprint it holds
abbrev pub IsFormerForeign : List ℕ → List ℕ → List ℕ → Type 0
IsFormerForeign given bytes kept = IsFormerHeader bytes × (kept ≡ fingerprint_in bytes) × (kept ≢ given)
