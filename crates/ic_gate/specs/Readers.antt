-- Reading the batches of a log where they lie.
use Rattle.std.specs.Prelude.{◌≡◌, ◌≤◌, ◌+◌, ℕ, Bool, List, ◌++◌, length, take, map, option_map, Option, Result}
use Rattle.ic_base.specs.declared.record.Record.{Record}
use Rattle.def_log.specs.Log.{Placed, placed_at, records_in, end_with_checkpoint}
use Rattle.def_log.specs.Spelling.{spellings}
use Rattle.ic_disk.specs.declared.disk.Disk.{Ghosts}
use Rattle.ic_gate.specs.Encoding.{Encode, ends_of, decoded, kind_of}
use Rattle.ic_gate.specs.RecordLoads.{AreRead, HoldRecords, ReadsRecords}

-- what a reader has: the records so far, the places of these where it keeps them, and the bytes that it hasn't looked at
pub record ReadSoFar : Type 0 where
  pub records : List Record
  pub places : Option (List ℕ)
  pub rest : List ℕ

-- the records so far are the first of the bytes and end here among them, are of these kinds, and stand before the next gate
pub record HoldsRead (bytes : List ℕ) (kept gate : ℕ) (ends kinds : List ℕ) : Type 0 where
  pub encoded : Encode (take kept bytes) ends (decoded (take kept bytes))
  pub kinds_are : kinds ≡ map kind_of (decoded (take kept bytes))
  pub below : kept ≤ gate
  pub inside : gate ≤ length bytes

-- places, and behind them those of more records, where places are kept
abbrev pub with_places : Option (List ℕ) → List Placed → Option (List ℕ)
with_places places more = option_map (λ all. all ++ map (λ r. r.0) more) places

-- behind the records before stand those that were read, with their places where these are kept
pub record IsReadOn (before : ReadSoFar) (read : Result (List Placed) ℕ) (bytes : ℕ) (after : ReadSoFar) : Type 0 where
  pub placed : List Placed
  pub are_read : AreRead read bytes placed
  pub behind : after.records ≡ before.records ++ records_in placed
  pub placed_behind : after.places ≡ with_places before.places placed

-- a payload that begins at this place was read: where its records end, behind so many bytes, stands behind other ends, their kinds
-- behind other kinds, and their places behind other places, where these are kept; and this tells whether the last is a checkpoint
pub record IsMarked (ends kinds : List ℕ) (places : Option (List ℕ)) (kept at : ℕ) (payload all_ends all_kinds : List ℕ) (all_places : Option (List ℕ)) (last : Bool) : Type 0 where
  pub placed : List Placed
  pub are_read : AreRead (placed_at at payload) (length payload) placed
  pub spelled : payload ≡ spellings (records_in placed)
  pub ended : all_ends ≡ ends ++ map (λ end. kept + end) (ends_of (records_in placed))
  pub kinds_behind : all_kinds ≡ kinds ++ map kind_of (records_in placed)
  pub placed_behind : all_places ≡ with_places places placed
  pub tells : last ≡ end_with_checkpoint (records_in placed)

-- the bytes are a log whose batches end at this closed gate, with so many payload bytes, and these are its open slots; its records were
-- read, with their places where these are kept
pub record HoldReadOn (bytes : List ℕ) (gate forced : ℕ) (slots : List ℕ) (places : Option (List ℕ)) (after : ReadSoFar) : Type 0 where
  pub placed : List Placed
  pub hold : HoldRecords bytes gate forced slots placed
  pub same : after.records ≡ records_in placed
  pub placed_same : after.places ≡ with_places places placed

module _ {D : Type 0} (d : Ghosts D) where
  -- the disk holds a log of this component of the scenario, and it is read with its records, and with their places where these are kept
  pub record ReadsOn (old : D) (fingerprint : List ℕ) (owner gate forced : ℕ) (slots : List ℕ) (places : Option (List ℕ)) (after : ReadSoFar) (new : D) : Type 0 where
    pub placed : List Placed
    pub reads : ReadsRecords d old fingerprint owner gate forced slots placed new
    pub same : after.records ≡ records_in placed
    pub placed_same : after.places ≡ with_places places placed
