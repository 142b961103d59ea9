-- What a load of a log's records comes to, and why there is none.
use Rattle.std.specs.Prelude.{◌≡◌, ℕ, ⊤, ◌+◌, false, List, [], Option, Some, option_map, Result, Ok, Err}
use Rattle.std.specs.List.{AllByRecursion}
use Rattle.ic_base.specs.declared.limits.TheConstants.{FIRST_GATE}
use Rattle.ic_base.specs.declared.record.Batch.{Batch}
use Rattle.def_log.specs.Changes.{gate_from}
use Rattle.def_log.specs.Directory.{slots_in}
use Rattle.def_log.specs.Frame.{frame_of, fingerprint_in, owner_in, IsForeign}
use Rattle.def_log.specs.Loads.{placed_log_for, placed_tail_for}
use Rattle.def_log.specs.Log.{◌>>=◌, Placed, placed_with, placed_by, placed_log_of, placed_tail_of, records_in}
use Rattle.def_log.specs.Sizes.{size_in, span, payload_count}
use Rattle.def_log.specs.Tail.{tail_gate}
use Rattle.def_state.specs.Positions.{end_of}
use Rattle.ic_disk.specs.Causes.{Rose}
use Rattle.ic_disk.specs.declared.disk.Disk.{Ghosts}
use Rattle.ic_gate.specs.Logs.{disk_of, size_of, start_of, forced_of, buffered_of, is_closed}
use Rattle.ic_gate.specs.Reading.{batches_behind, IsAtRest, IsUnmoved, Reads, ReadsTail}
use Rattle.ic_gate.specs.RecordFiles.{placed_from}
use Rattle.ic_gate.specs.Refusals.{IsNotForeign}
use Rattle.ic_gate.specs.declared.log.Log.{Log}
use Rattle.ic_gate.specs.declared.refusals.LoadRefused.{LoadRefused}
use Rattle.ic_gate.specs.declared.refusals.LoadWhy.{LoadWhy}
use Rattle.ic_gate.specs.declared.refusals.LoadWhy.TheVariants.{Bad, Foreign, Failed, Stopped, Memory}
use Rattle.ic_wire.specs.Placed.{PlacedFits}

-- these records were read, each with its place, and they are as long as their bytes
pub record AreRead (read : Result (List Placed) ℕ) (bytes : ℕ) (records : List Placed) : Type 0 where
  pub are : read ≡ Ok records
  pub fit : AllByRecursion PlacedFits records
  pub long : bytes ≡ end_of (records_in records)

-- why no records are read: the first byte that begins none
abbrev pub FailsToRead : Result (List Placed) ℕ → LoadWhy → Type 0
FailsToRead read (Bad place) = read ≡ Err place
FailsToRead read (Foreign kept) = ⊥
FailsToRead read Failed = ⊥
FailsToRead read Stopped = ⊥
FailsToRead read Memory = ⊤

-- the bytes are a log whose batches end at this closed gate, with so many payload bytes, and these are its open slots and its records
pub record HoldRecords (bytes : List ℕ) (gate forced : ℕ) (slots : List ℕ) (records : List Placed) : Type 0 where
  pub batches : List Batch
  pub frame : frame_of bytes ≡ Ok batches
  pub slots_same : slots_in bytes ≡ slots
  pub gate_is : gate ≡ FIRST_GATE + span batches
  pub forced_is : forced ≡ payload_count batches
  pub are_read : AreRead (placed_with slots batches) (payload_count batches) records

-- the records of bytes that stand from a tail's gate on, which must be open where a slot at this place names it
abbrev pub placed_behind : Option ℕ → ℕ → List ℕ → Result (List Placed) ℕ
placed_behind slot gate bytes = do
  bs ← batches_behind slot gate bytes
  placed_by slot bs

-- the batches of these bytes end at this closed gate, with so many payload bytes, and these are their records
pub record HoldTailRecords (slot : Option ℕ) (start : ℕ) (bytes : List ℕ) (gate forced : ℕ) (records : List Placed) : Type 0 where
  pub batches : List Batch
  pub frame : batches_behind slot start bytes ≡ Ok batches
  pub gate_is : gate ≡ start + span batches
  pub forced_is : forced ≡ payload_count batches
  pub are_read : AreRead (placed_by slot batches) (payload_count batches) records

module _ {D : Type 0} {d : Ghosts D} where
  -- the log's disk, which is handed back where there is no log
  abbrev pub disk_loaded : {A : Type 0} → Result (Log D d × A) (LoadRefused D) → D
  disk_loaded (Ok loaded) = disk_of loaded.0
  disk_loaded (Err refused) = refused.disk

module _ {D : Type 0} (d : Ghosts D) where
  -- the disk holds a log of this component of the scenario, and it is read with its records
  pub record ReadsRecords (old : D) (fingerprint : List ℕ) (owner gate forced : ℕ) (slots : List ℕ) (records : List Placed) (new : D) : Type 0 where
    pub batches : List Batch
    pub read : Reads d old fingerprint owner batches slots new
    pub gate_is : gate ≡ FIRST_GATE + span batches
    pub forced_is : forced ≡ payload_count batches
    pub are_read : AreRead (placed_with slots batches) (payload_count batches) records

  -- and so is its tail, which begins at this gate
  pub record ReadsTailRecords (old : D) (fingerprint : List ℕ) (owner start gate forced : ℕ) (slots : List ℕ) (records : List Placed) (new : D) : Type 0 where
    pub batches : List Batch
    pub slot : Option ℕ
    pub read : ReadsTail d old fingerprint owner batches slots start slot new
    pub gate_is : gate ≡ start + span batches
    pub forced_is : forced ≡ payload_count batches
    pub are_read : AreRead (placed_by slot batches) (payload_count batches) records

  -- The log that stands on the disk, with its records and their places; the file isn't changed. The log is open, with nothing
  -- buffered, and the end of the records is its position.
  pub record LoadsRecords (old : D) (fingerprint : List ℕ) (owner : ℕ) (loaded : Log D d × List Placed) : Type 0 where
    pub read : d.tells old → placed_log_of (d.seen old) ≡ Ok loaded.1
    pub bytes : d.tells old → d.seen (disk_of loaded.0) ≡ d.seen old
    pub own : d.tells old → fingerprint_in (d.seen old) ≡ fingerprint
    pub owner_same : d.tells old → owner_in (d.seen old) ≡ owner
    pub sized : d.tells old → size_in (d.seen old) ≡ Some (size_of loaded.0)
    pub start : start_of loaded.0 ≡ FIRST_GATE
    pub walk : d.tells old → placed_from (start_of loaded.0) (d.seen old) ≡ Ok loaded.1
    pub fit : AllByRecursion PlacedFits loaded.1
    pub forced : forced_of loaded.0 ≡ end_of (records_in loaded.1)
    pub buffered : buffered_of loaded.0 ≡ []
    pub is_open : is_closed loaded.0 ≡ false

  -- The log that stands on the disk, with the records of its tail and their places; the file isn't changed. The log begins at the
  -- tail's gate, is open, with nothing buffered, and the end of the records is its position. What stands before the tail isn't told:
  -- where the whole file has a size, it is the log's.
  pub record LoadsTailRecords (old : D) (fingerprint : List ℕ) (owner : ℕ) (loaded : Log D d × List Placed) : Type 0 where
    pub read : d.tells old → placed_tail_of (d.seen old) ≡ Ok loaded.1
    pub bytes : d.tells old → d.seen (disk_of loaded.0) ≡ d.seen old
    pub own : d.tells old → fingerprint_in (d.seen old) ≡ fingerprint
    pub owner_same : d.tells old → owner_in (d.seen old) ≡ owner
    pub sized : d.tells old → option_map (λ gate. gate + 1) (gate_from (start_of loaded.0) (d.seen old)) ≡ Some (size_of loaded.0)
    pub of_file : d.tells old → (size : ℕ) → size_in (d.seen old) ≡ Some size → size ≡ size_of loaded.0
    pub start : d.tells old → tail_gate (d.seen old) ≡ start_of loaded.0
    pub walk : d.tells old → placed_from (start_of loaded.0) (d.seen old) ≡ Ok loaded.1
    pub fit : AllByRecursion PlacedFits loaded.1
    pub forced : forced_of loaded.0 ≡ end_of (records_in loaded.1)
    pub buffered : buffered_of loaded.0 ≡ []
    pub is_open : is_closed loaded.0 ≡ false

  -- the file is refused from this place on by this reading of its records, and is of no other scenario; it isn't changed
  pub record IsBad (records_by : List ℕ → Result (List Placed) ℕ) (old : D) (fingerprint : List ℕ) (at : ℕ) (new : D) : Type 0 where
    pub place : d.tells old → records_by (d.seen old) ≡ Err at
    pub not_foreign : d.tells old → IsNotForeign fingerprint (d.seen old)
    pub bytes : d.tells old → d.seen new ≡ d.seen old

  -- why no records are loaded by this reading, and what then stands
  abbrev pub RefusesRecordsBy : (List ℕ → Result (List Placed) ℕ) → D → List ℕ → D → LoadWhy → Type 0
  RefusesRecordsBy records_by old fingerprint new (Bad place) = IsBad records_by old fingerprint place new
  RefusesRecordsBy records_by old fingerprint new (Foreign kept) = d.tells old → IsForeign fingerprint (d.seen old) kept × (d.seen new ≡ d.seen old)
  RefusesRecordsBy records_by old fingerprint new Failed = Rose (d.faults old) (d.faults new) × IsUnmoved d old new
  RefusesRecordsBy records_by old fingerprint new Stopped = d.stopped new × IsUnmoved d old new
  RefusesRecordsBy records_by old fingerprint new Memory = IsAtRest d old new

  -- why no records are loaded: the file is no log of this component, or has bytes that are no records
  abbrev pub RefusesRecords : D → List ℕ → ℕ → D → LoadWhy → Type 0
  RefusesRecords old fingerprint owner new why = RefusesRecordsBy (placed_log_for owner) old fingerprint new why

  -- why no records of a tail are loaded: the file's header is no log's of this component, or its tail is refused
  abbrev pub RefusesTailRecords : D → List ℕ → ℕ → D → LoadWhy → Type 0
  RefusesTailRecords old fingerprint owner new why = RefusesRecordsBy (placed_tail_for owner) old fingerprint new why
