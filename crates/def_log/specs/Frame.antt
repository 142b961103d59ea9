-- What the bytes of a log stand for: open batches behind a header, up to the first gate that is closed.
use Rattle.std.specs.Prelude.{◌≡◌, ◌≢◌, ℕ, zero, suc, ◌+◌, ◌≤◌, List, [], ◌∷◌, ◌++◌, length, take, drop, get_or, not, true, Bool, Option, Some, None, option_map, Result, Ok, Err, nat_lt, ◌==◌, if◌then◌else◌, codes}
use Rattle.ic_base.specs.declared.limits.TheConstants.{FIRST_GATE, LOG_BYTES}
use Rattle.std.specs.Int.{w32, to_be_bytes, from_be_bytes}
use Rattle.ic_base.specs.declared.record.Batch.{Batch}
use Rattle.def_log.specs.Directory.{directory, first_slot, slots_in, first_bad_slot, unless_bad}

-- the letters at the front of each log
abbrev pub letters : List ℕ
letters = codes "ICLOG002"

-- the header: the letters, the fingerprint of the scenario in 32 bytes, the component's number, and these open slots before closed ones
abbrev pub header : List ℕ → ℕ → List ℕ → List ℕ
header fingerprint owner slots = letters ++ (fingerprint ++ owner ∷ directory slots)

-- a payload behind its length in four bytes
abbrev pub batch : List ℕ → List ℕ
batch payload = to_be_bytes w32 (length payload) ++ payload

-- open gates, each with its batch
abbrev pub batches : List (List ℕ) → List ℕ
batches [] = []
batches (p ∷ ps) = (1 ∷ batch p) ++ batches ps

-- these payloads as batches, the first behind a gate at this offset
abbrev pub placed : ℕ → List (List ℕ) → List Batch
placed gate [] = []
placed gate (p ∷ ps) = record { at = gate + 5; payload = p } ∷ placed (gate + 5 + length p) ps

-- a log at rest: the header, the batches and a closed gate
abbrev pub at_rest : List ℕ → ℕ → List ℕ → List (List ℕ) → List ℕ
at_rest fingerprint owner slots ps = header fingerprint owner slots ++ (batches ps ++ 0 ∷ [])

-- a log of no batches
abbrev pub fresh : List ℕ → ℕ → List ℕ
fresh fingerprint owner = at_rest fingerprint owner [] []

-- the first place, of those that both texts have, at which they differ
abbrev pub first_difference : List ℕ → List ℕ → Option ℕ
first_difference (x ∷ xs) (y ∷ ys) = if x == y then option_map suc (first_difference xs ys) else Some 0
first_difference xs ys = None

-- the batch, and those behind it where they stand
abbrev pub with_batch : Batch → Result (List Batch) ℕ → Result (List Batch) ℕ
with_batch b (Ok bs) = Ok (b ∷ bs)
with_batch b (Err place) = Err place

-- The open batches from a gate at this offset on, of which there are at most as many as the first number says.
-- A file that ends too early is refused at its end, a batch of no bytes at its length.
abbrev pub batches_from : ℕ → ℕ → List ℕ → Result (List Batch) ℕ
batches_from n gate [] = Err gate
batches_from zero gate (byte ∷ rest) = Ok []
batches_from (suc n) gate (byte ∷ rest) =
    if not (byte == 1) then Ok []
    else (if nat_lt (length rest) 4 then Err (gate + 1 + length rest)
    else (let size = from_be_bytes w32 (take 4 rest) in
    let more = drop 4 rest in
    if size == 0 then Err (gate + 1)
    else (if nat_lt (length more) size then Err (gate + 1 + length rest)
    else with_batch (record { at = gate + 5; payload = take size more }) (batches_from n (gate + 5 + size) (drop size more)))))

-- the open batches of a file from a gate on
abbrev pub batches_at : ℕ → List ℕ → Result (List Batch) ℕ
batches_at gate bytes = batches_from (length bytes) gate (drop gate bytes)

-- any batch: a frame asks no more of the batch that a slot names
abbrev pub any_batch : Batch → Bool
any_batch b = true

-- the batches, unless a slot doesn't name one of them
abbrev pub with_slots : List ℕ → Result (List Batch) ℕ → Result (List Batch) ℕ
with_slots slots (Err place) = Err place
with_slots slots (Ok bs) = unless_bad (first_bad_slot any_batch first_slot slots bs) bs

-- where the letters or the header are cut or wrong, and what stands behind them
abbrev pub behind_letters : Result (List Batch) ℕ → List ℕ → Option ℕ → Result (List Batch) ℕ
behind_letters behind bytes (Some place) = Err place
behind_letters behind bytes None = if nat_lt (length bytes) FIRST_GATE then Err (length bytes) else behind

-- what stands behind a header, if the file isn't too long and has a header
abbrev pub behind_header : Result (List Batch) ℕ → List ℕ → Result (List Batch) ℕ
behind_header behind bytes = if nat_lt LOG_BYTES (length bytes) then Err LOG_BYTES else behind_letters behind bytes (first_difference letters (take 8 bytes))

-- The open batches of a log, or the place at which its frame is refused: its length, its letters, its header's length, its
-- batches, its open slots. Whose log it is, which comes before the batches, is asked by `load_of`.
unfoldable pub frame_of : List ℕ → Result (List Batch) ℕ
frame_of bytes = behind_header (with_slots (slots_in bytes) (batches_at FIRST_GATE bytes)) bytes

-- the header can be read: the log isn't too long, and the letters and a whole header are there
pub record IsWellFormed (bytes : List ℕ) : Type 0 where
  pub short : length bytes ≤ LOG_BYTES
  pub header : FIRST_GATE ≤ length bytes
  pub letters : take 8 bytes ≡ letters

-- the fingerprint that a log holds
abbrev pub fingerprint_in : List ℕ → List ℕ
fingerprint_in bytes = take 32 (drop 8 bytes)

-- the number of the component whose log it is
abbrev pub owner_in : List ℕ → ℕ
owner_in bytes = get_or bytes 40 0

-- the log is of another scenario, whose fingerprint it holds
abbrev pub IsForeign : List ℕ → List ℕ → List ℕ → Type 0
IsForeign given bytes kept = IsWellFormed bytes × (kept ≡ fingerprint_in bytes) × (kept ≢ given)
