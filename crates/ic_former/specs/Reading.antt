-- What reading a log of the former format off its disk comes to, and why it isn't read.
use Rattle.std.specs.Prelude.{◌≡◌, ◌⊎◌, ◌<◌, ◌+◌, ℕ, true, List, [], ◌∷◌, length, Result, Ok, Err}
use Rattle.ic_base.specs.declared.record.Batch.{Batch}
use Rattle.def_log.specs.Frame.{fingerprint_in}
use Rattle.def_log.specs.Images.{LeavesJust}
use Rattle.def_log.specs.Log.{Placed}
use Rattle.def_former.specs.declared.limits.TheConstants.{FORMER_LOG_BYTES}
use Rattle.def_former.specs.Frame.{former_frame_of, IsFormerForeign}
use Rattle.def_former.specs.Log.{placed_former_log_of}
use Rattle.ic_disk.specs.Causes.{Rose}
use Rattle.ic_disk.specs.Stops.{DeviceCall, AsksLength, Reads, Syncs}
use Rattle.ic_disk.specs.declared.disk.Disk.{Ghosts}
use Rattle.ic_former.specs.Refusals.{IsNotForeign}
use Rattle.ic_former.specs.declared.refusals.LoadWhy.{LoadWhy}
use Rattle.ic_former.specs.declared.refusals.LoadWhy.TheVariants.{Bad, Foreign, Failed, Stopped, Memory}

-- the device calls by which a log is read
abbrev pub load_calls : List DeviceCall
load_calls = Syncs ∷ AsksLength ∷ Reads ∷ []

-- records are read
abbrev pub IsReadable : Result (List Placed) ℕ → Type 0
IsReadable read = (rs : List Placed) × (read ≡ Ok rs)

-- why no records are read: the first byte that begins none
abbrev pub FailsToRead : Result (List Placed) ℕ → LoadWhy → Type 0
FailsToRead read (Bad place) = read ≡ Err place
FailsToRead read (Foreign kept) = ⊥
FailsToRead read Failed = ⊥
FailsToRead read Stopped = ⊥
FailsToRead read Memory = Unit {0}

module _ {D : Type 0} (d : Ghosts D) where
  -- These are the batches of the log of the former format that the disk holds, whose fingerprint is the given one and whose records can
  -- be read, and a crash leaves just that log.
  pub record ReadsFormer (old : D) (fingerprint : List ℕ) (batches : List Batch) (new : D) : Type 0 where
    pub bytes : d.tells old → d.seen new ≡ d.seen old
    pub frame : d.tells old → former_frame_of (d.seen old) ≡ Ok batches
    pub records : d.tells old → IsReadable (placed_former_log_of (d.seen old))
    pub fingerprint_same : d.tells old → fingerprint_in (d.seen old) ≡ fingerprint
    pub images : d.keeps old → LeavesJust (d.may_leave new) (d.seen old)
    pub settled : d.settled new ≡ true

  -- Three device calls were made; or two, where the file passes the limit, and it isn't read.
  abbrev pub IsRead : D → ℕ → D → Type 0
  IsRead old place new = (d.calls new ≡ d.calls old + 3) ⊎ ((d.calls new ≡ d.calls old + 2) × (place ≡ FORMER_LOG_BYTES) × (d.tells old → FORMER_LOG_BYTES < length (d.seen old)))

  -- what the disk holds is refused at this place, and isn't the log of another scenario
  pub record IsBad (old : D) (fingerprint : List ℕ) (at : ℕ) (new : D) : Type 0 where
    pub place : d.tells old → placed_former_log_of (d.seen old) ≡ Err at
    pub not_foreign : d.tells old → IsNotForeign fingerprint (d.seen old)
    pub bytes : d.tells old → d.seen new ≡ d.seen old
    pub calls : IsRead old at new

  -- the disk holds the log of another scenario, whose fingerprint is in its header
  pub record IsOfAnother (old : D) (fingerprint kept : List ℕ) (new : D) : Type 0 where
    pub foreign : d.tells old → IsFormerForeign fingerprint (d.seen old) kept
    pub bytes : d.tells old → d.seen new ≡ d.seen old
    pub calls : d.calls new ≡ d.calls old + 3

  -- nothing waits for a sync, so the bytes are as before
  abbrev pub IsUnmoved : D → D → Type 0
  IsUnmoved old new = d.tells old → d.settled old ≡ true → d.seen new ≡ d.seen old

  -- why no log is read
  abbrev pub RefusesFormer : D → List ℕ → D → LoadWhy → Type 0
  RefusesFormer old fingerprint new (Bad place) = IsBad old fingerprint place new
  RefusesFormer old fingerprint new (Foreign kept) = IsOfAnother old fingerprint kept new
  RefusesFormer old fingerprint new Failed = Rose (d.faults old) (d.faults new) × IsUnmoved old new
  RefusesFormer old fingerprint new Stopped = d.stopped new × IsUnmoved old new
  RefusesFormer old fingerprint new Memory = d.tells old → d.seen new ≡ d.seen old

  -- why a file isn't read: it passes the limit, which two calls show
  abbrev pub RefusesFile : D → D → LoadWhy → Type 0
  RefusesFile old new (Bad place) = (place ≡ FORMER_LOG_BYTES) × (d.tells old → FORMER_LOG_BYTES < length (d.seen old)) × (d.tells old → d.seen new ≡ d.seen old) × (d.calls new ≡ d.calls old + 2)
  RefusesFile old new (Foreign kept) = ⊥
  RefusesFile old new Failed = Rose (d.faults old) (d.faults new) × IsUnmoved old new
  RefusesFile old new Stopped = d.stopped new × IsUnmoved old new
  RefusesFile old new Memory = d.tells old → d.seen new ≡ d.seen old
