-- The records of a chief's or a book's log, or the place at which its bytes are refused.
use Rattle.std.specs.Prelude.{ℕ, zero, suc, ◌+◌, ◌-◌, List, [], ◌∷◌, ◌++◌, length, map, ok_or, Result, Ok, Err}
use Rattle.ic_base.specs.declared.record.Batch.{Batch}
use Rattle.def_log.specs.Frame.{frame_of}
use Rattle.def_log.specs.Loads.{frame_for}
use Rattle.def_log.specs.Log.{◌>>=◌}
use Rattle.def_two.specs.declared.moves.Record2.{Record2}
use Rattle.def_two.specs.Records.{record2_at}

-- a record and the place of its first byte
abbrev pub Placed2 : Type 0
Placed2 = ℕ × Record2

-- whole records up to a place where the bytes end, of which there are at most as many as the first number says, or the first place at which none begins
unfoldable pub placed2_up_to : ℕ → ℕ → List ℕ → Result (List Placed2) ℕ
placed2_up_to n end [] = Ok []
placed2_up_to zero end (b ∷ bytes) = Err (end - length (b ∷ bytes))
placed2_up_to (suc n) end (b ∷ bytes) = do
  first ← ok_or (record2_at (b ∷ bytes)) (end - length (b ∷ bytes))
  others ← placed2_up_to n end first.1
  Ok ((end - length (b ∷ bytes), first.0) ∷ others)

-- the records of bytes that begin at this place
abbrev pub placed2_at : ℕ → List ℕ → Result (List Placed2) ℕ
placed2_at at bytes = placed2_up_to (length bytes) (at + length bytes) bytes

-- the records alone
abbrev pub records2_in : List Placed2 → List Record2
records2_in rs = map (λ r. r.1) rs

-- the records of the batches, each with its place in the file, or the first place at which none begins
abbrev pub placed2_in : List Batch → Result (List Placed2) ℕ
placed2_in [] = Ok []
placed2_in (b ∷ bs) = do
  first ← placed2_at b.at b.payload
  others ← placed2_in bs
  Ok (first ++ others)

-- the records of a log with their places, or the place at which its bytes are refused: the whole frame is looked at first
abbrev pub placed2_log_of : List ℕ → Result (List Placed2) ℕ
placed2_log_of bytes = do
  bs ← frame_of bytes
  placed2_in bs

-- the records of the log of a chief or a book of this number with their places
abbrev pub placed2_log_for : ℕ → List ℕ → Result (List Placed2) ℕ
placed2_log_for owner bytes = do
  bs ← frame_for owner bytes
  placed2_in bs

-- the records of a log, or the place at which its bytes are refused
abbrev pub log2_of : List ℕ → Result (List Record2) ℕ
log2_of bytes = do
  rs ← placed2_log_of bytes
  Ok (records2_in rs)
