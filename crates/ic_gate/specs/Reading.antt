-- What reading a log off its disk comes to, and why it isn't read.
use Rattle.std.specs.Prelude.{◌≡◌, ◌⊎◌, ◌<◌, ◌+◌, ◌≤◌, ℕ, true, List, [], ◌∷◌, length, Result, Ok, Err, ◌==◌, if◌then◌else◌, Bool, false, take, drop, Option, Some, None}
use Rattle.ic_base.specs.declared.limits.TheConstants.{LOG_BYTES, FIRST_GATE}
use Rattle.ic_base.specs.declared.record.Batch.{Batch}
use Rattle.def_log.specs.Changes.{gate_from, forced_from}
use Rattle.def_log.specs.Directory.{slots_in, last_slot, last_offset}
use Rattle.def_log.specs.Frame.{frame_of, fingerprint_in, owner_in, IsForeign, letters, first_difference, batches_from}
use Rattle.def_log.specs.Loads.{frame_for, tail_frame_for}
use Rattle.def_log.specs.Images.{LeavesJust}
use Rattle.ic_disk.specs.Causes.{Rose}
use Rattle.ic_disk.specs.Stops.{DeviceCall, AsksLength, Syncs}
use Rattle.ic_disk.specs.Stops as stops
use Rattle.ic_disk.specs.declared.disk.Disk.{Ghosts}
use Rattle.ic_gate.specs.Gates.{AreBelow}
use Rattle.ic_gate.specs.Refusals.{IsNotForeign}
use Rattle.ic_gate.specs.declared.refusals.LoadWhy.{LoadWhy}
use Rattle.ic_gate.specs.declared.refusals.LoadWhy.TheVariants.{Bad, Foreign, Failed, Stopped, Memory}
use Rattle.def_log.specs.Tail.{tail_gate, tail_slot, tail_frame_of}

-- the device calls by which a log is read
abbrev pub load_calls : List DeviceCall
load_calls = Syncs ∷ AsksLength ∷ stops.Reads ∷ []

-- and those by which its tail is read: of the header, then of the tail
abbrev pub tail_calls : List DeviceCall
tail_calls = Syncs ∷ AsksLength ∷ stops.Reads ∷ stops.Reads ∷ []

-- bytes hold a header of this component of the scenario, with these open slots
pub record HasHeader (fingerprint : List ℕ) (owner : ℕ) (slots bytes : List ℕ) : Type 0 where
  pub same : first_difference letters (take 8 bytes) ≡ None
  pub long : FIRST_GATE ≤ length bytes
  pub fingerprint_same : fingerprint_in bytes ≡ fingerprint
  pub owner_same : owner_in bytes ≡ owner
  pub slots_same : slots_in bytes ≡ slots

-- the gate at the front of bytes is open
abbrev pub is_open_front : List ℕ → Bool
is_open_front [] = false
is_open_front (byte ∷ rest) = byte == 1

-- the batches of bytes that stand from a gate on, which must be open where a slot at this place names it
abbrev pub batches_behind : Option ℕ → ℕ → List ℕ → Result (List Batch) ℕ
batches_behind None gate bytes = batches_from (length bytes) gate bytes
batches_behind (Some place) gate bytes = if is_open_front bytes then batches_from (length bytes) gate bytes else Err place

module _ {D : Type 0} (d : Ghosts D) where
  -- the file isn't changed, and a crash leaves just that
  pub record IsAtRest (old new : D) : Type 0 where
    pub bytes : d.tells old → d.seen new ≡ d.seen old
    pub images : d.keeps old → LeavesJust (d.may_leave new) (d.seen old)

  -- the disk holds a log of this component of the scenario with this fingerprint, and a crash leaves just that log
  pub record HoldsLog (old : D) (fingerprint : List ℕ) (owner : ℕ) (new : D) : Type 0 where
    pub bytes : d.tells old → d.seen new ≡ d.seen old
    pub fingerprint_same : d.tells old → fingerprint_in (d.seen old) ≡ fingerprint
    pub owner_same : d.tells old → owner_in (d.seen old) ≡ owner
    pub images : d.keeps old → LeavesJust (d.may_leave new) (d.seen old)
    pub settled : d.settled new ≡ true

  -- A log stands on the disk, and a crash leaves just that log: its batches from this gate on end at the closed gate, with so many payload
  -- bytes, and these are its open slots.
  pub record Stands (disk : D) (start gate forced : ℕ) (slots : List ℕ) : Type 0 where
    pub at_gate : d.tells disk → gate_from start (d.seen disk) ≡ Some gate
    pub counted : d.tells disk → forced_from start (d.seen disk) ≡ Some forced
    pub listed : d.tells disk → slots_in (d.seen disk) ≡ slots
    pub durable : d.keeps disk → LeavesJust (d.may_leave disk) (d.seen disk)
    pub settled : d.settled disk ≡ true

  -- these are its batches and its open slots
  pub record Reads (old : D) (fingerprint : List ℕ) (owner : ℕ) (batches : List Batch) (slots : List ℕ) (new : D) : Type 0 where
    pub log : HoldsLog old fingerprint owner new
    pub frame : d.tells old → frame_of (d.seen old) ≡ Ok batches
    pub slots_same : d.tells old → slots_in (d.seen old) ≡ slots
    pub below : AreBelow LOG_BYTES batches

  -- these are the batches of its tail, which begins at this gate, and its open slots; the tail uses the slot at this place
  pub record ReadsTail (old : D) (fingerprint : List ℕ) (owner : ℕ) (batches : List Batch) (slots : List ℕ) (start : ℕ) (slot : Option ℕ) (new : D) : Type 0 where
    pub log : HoldsLog old fingerprint owner new
    pub frame : d.tells old → tail_frame_of (d.seen old) ≡ Ok batches
    pub slots_same : d.tells old → slots_in (d.seen old) ≡ slots
    pub gate : d.tells old → tail_gate (d.seen old) ≡ start
    pub slot_used : d.tells old → tail_slot (d.seen old) ≡ slot
    pub below : AreBelow LOG_BYTES batches

  -- the disk holds a log of this component of the scenario, with these open slots; its tail begins at this gate, from which these bytes
  -- stand in the file, and uses the slot at this place
  pub record HoldsTail (old : D) (fingerprint : List ℕ) (owner : ℕ) (slots : List ℕ) (start : ℕ) (slot : Option ℕ) (bytes : List ℕ) (new : D) : Type 0 where
    pub header : d.tells old → HasHeader fingerprint owner slots (d.seen old)
    pub short : d.tells old → length (d.seen old) ≤ LOG_BYTES
    pub high : FIRST_GATE ≤ start
    pub begun : start ≡ last_offset FIRST_GATE slots
    pub slot_used : slot ≡ last_slot slots
    pub there : d.tells old → bytes ≡ drop start (d.seen old)
    pub rests : IsAtRest old new
    pub settled : d.settled new ≡ true
    pub calls : d.calls old + 3 ≤ d.calls new

  -- At least three device calls were made; or two, where the file passes the limit, and it isn't read.
  abbrev pub IsRead : D → ℕ → D → Type 0
  IsRead old place new = (d.calls old + 3 ≤ d.calls new) ⊎ ((d.calls new ≡ d.calls old + 2) × (place ≡ LOG_BYTES) × (d.tells old → LOG_BYTES < length (d.seen old)))

  -- what the disk holds is refused at this place by a frame, and isn't the log of another scenario
  pub record IsBad (frame_by : List ℕ → Result (List Batch) ℕ) (old : D) (fingerprint : List ℕ) (place : ℕ) (new : D) : Type 0 where
    pub frame : d.tells old → frame_by (d.seen old) ≡ Err place
    pub not_foreign : d.tells old → IsNotForeign fingerprint (d.seen old)
    pub bytes : d.tells old → d.seen new ≡ d.seen old
    pub calls : IsRead old place new

  -- The bytes that were read are the log of another scenario, whose fingerprint is in its header; where the disk tells its
  -- bytes, it holds that log.
  pub record IsOfAnother (old : D) (fingerprint kept : List ℕ) (new : D) : Type 0 where
    pub read : List ℕ
    pub foreign : IsForeign fingerprint read kept
    pub told : d.tells old → IsForeign fingerprint (d.seen old) kept
    pub bytes : d.tells old → d.seen new ≡ d.seen old
    pub calls : d.calls old + 3 ≤ d.calls new

  -- nothing waits for a sync, so the bytes are as before
  abbrev pub IsUnmoved : D → D → Type 0
  IsUnmoved old new = d.tells old → d.settled old ≡ true → d.seen new ≡ d.seen old

  -- why no log is loaded by this frame
  abbrev pub RefusesBy : (List ℕ → Result (List Batch) ℕ) → D → List ℕ → D → LoadWhy → Type 0
  RefusesBy frame_by old fingerprint new (Bad place) = IsBad frame_by old fingerprint place new
  RefusesBy frame_by old fingerprint new (Foreign kept) = IsOfAnother old fingerprint kept new
  RefusesBy frame_by old fingerprint new Failed = Rose (d.faults old) (d.faults new) × IsUnmoved old new
  RefusesBy frame_by old fingerprint new Stopped = d.stopped new × IsUnmoved old new
  RefusesBy frame_by old fingerprint new Memory = IsAtRest old new

  -- why no log is loaded, and why no tail
  abbrev pub RefusesToLoad : D → List ℕ → ℕ → D → LoadWhy → Type 0
  RefusesToLoad old fingerprint owner new why = RefusesBy (frame_for owner) old fingerprint new why

  abbrev pub RefusesToLoadTail : D → List ℕ → ℕ → D → LoadWhy → Type 0
  RefusesToLoadTail old fingerprint owner new why = RefusesBy (tail_frame_for owner) old fingerprint new why

  -- why a file isn't read: it passes the limit, which two calls show
  abbrev pub RefusesToRead : D → D → LoadWhy → Type 0
  RefusesToRead old new (Bad place) = (place ≡ LOG_BYTES) × (d.tells old → LOG_BYTES < length (d.seen old)) × (d.tells old → d.seen new ≡ d.seen old) × (d.calls new ≡ d.calls old + 2)
  RefusesToRead old new (Foreign kept) = ⊥
  RefusesToRead old new Failed = Rose (d.faults old) (d.faults new) × IsUnmoved old new
  RefusesToRead old new Stopped = d.stopped new × IsUnmoved old new
  RefusesToRead old new Memory = IsAtRest old new
