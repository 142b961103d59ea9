-- How the records of a log are read, what a crash may leave of them, and how a refusal is handed on.
use Rattle.std.specs.Prelude.{◌≡◌, ◌⊎◌, ℕ, ◌+◌, ◌<◌, ◌≤◌, List, [], ◌++◌, length, Result, Ok, Err}
use Rattle.std.specs.List.{AllByRecursion}
use Rattle.ic_base.specs.declared.limits.TheConstants.{LOG_BYTES}
use Rattle.ic_base.specs.declared.record.Record.{Record}
use Rattle.def_log.specs.Changes.{IsOfSame}
use Rattle.def_log.specs.Frame.{batches_at}
use Rattle.def_log.specs.Log.{◌>>=◌, Placed, placed_in, records_in, log_of}
use Rattle.def_log.specs.Spelling.{spellings, Fits}
use Rattle.ic_gate.specs.declared.refusals.AppendRefused.{AppendRefused}
use Rattle.ic_gate.specs.declared.refusals.AppendRefused.TheVariants as append
use Rattle.ic_gate.specs.declared.refusals.StepRefused.{StepRefused}
use Rattle.ic_gate.specs.declared.refusals.StepRefused.TheVariants.{Failed, Full, Memory}

-- The records of the batches from a gate on with their places, or the place at which the bytes are refused; what stands before the gate
-- isn't looked at.
abbrev pub placed_from : ℕ → List ℕ → Result (List Placed) ℕ
placed_from start bytes = do
  bs ← batches_at start bytes
  placed_in bs

-- the records alone
abbrev pub records_from : ℕ → List ℕ → Result (List Record) ℕ
records_from start bytes = do
  rs ← placed_from start bytes
  Ok (records_in rs)

-- the records that were read, or none
abbrev pub read_or_none : Result (List Record) ℕ → List Record
read_or_none (Ok rs) = rs
read_or_none (Err place) = []

-- the log has the old records, or these and all that were added, and is that of the same component of the same scenario
abbrev pub IsBeforeOrBehind : List ℕ → List Record → List Record → List ℕ → Type 0
IsBeforeOrBehind old records added image =
    IsOfSame old image × ((log_of image ≡ Ok records) ⊎ (log_of image ≡ Ok (records ++ added)))

-- From this gate on the new file has the records behind; and whatever stands before the gate: where the old file's log ended with the
-- records before, the new one has those behind in their place.
pub record ReadsOn (start : ℕ) (old : List ℕ) (before : List Record) (new : List ℕ) (behind : List Record) : Type 0 where
  pub walk : records_from start new ≡ Ok behind
  pub whole : (front : List Record) → log_of old ≡ Ok (front ++ before) → log_of new ≡ Ok (front ++ behind)

-- from this gate on the log has the old records, or these and all that were added, and it is that of the same component of the same
-- scenario
abbrev pub IsBeforeOrBehindFrom : ℕ → List ℕ → List Record → List Record → List ℕ → Type 0
IsBeforeOrBehindFrom start old records added image =
    IsOfSame old image × (ReadsOn start old records image records ⊎ ReadsOn start old records image (records ++ added))

-- these records are such as a log has, and a log of this size has room for them as its next batch
pub record CanStand (size : ℕ) (batch : List Record) : Type 0 where
  pub fits : ∥ AllByRecursion Fits batch ∥₁
  pub room : 0 < length (spellings batch) → size + 5 + length (spellings batch) ≤ LOG_BYTES

-- what a refusal of an open log is to the records over it
abbrev pub refusal_of : AppendRefused → StepRefused
refusal_of append.Closed = Failed
refusal_of append.Full = Full
refusal_of append.Memory = Memory
