-- What a load of a log's records comes to, and why there is none.
use Rattle.std.specs.Prelude.{◌≡◌, ℕ, false, List, [], Option, Some, Result, Ok, Err}
use Rattle.std.specs.List.{AllByRecursion}
use Rattle.def_log.specs.Frame.{fingerprint_in, owner_in, IsForeign}
use Rattle.def_log.specs.Sizes.{size_in}
use Rattle.def_two.specs.Logs.{Placed2, placed2_log_of, placed2_log_for}
use Rattle.ic_disk.specs.Causes.{Rose}
use Rattle.ic_disk.specs.declared.disk.Disk.{Ghosts}
use Rattle.ic_gate.specs.Logs.{disk_of, size_of, buffered_of, is_closed}
use Rattle.ic_gate.specs.Reading.{IsUnmoved}
use Rattle.ic_gate.specs.Refusals.{IsNotForeign}
use Rattle.ic_gate.specs.declared.log.Log.{Log}
use Rattle.ic_gate.specs.declared.refusals.LoadRefused.{LoadRefused}
use Rattle.ic_gate.specs.declared.refusals.LoadWhy.{LoadWhy}
use Rattle.ic_gate.specs.declared.refusals.LoadWhy.TheVariants.{Bad, Foreign, Failed, Stopped, Memory}
use Rattle.ic_two.specs.Reading.{PlacedFits2}

-- the place of the first of these records that may not stand there, or that at which none were read
abbrev pub place_in : (List Placed2 → Option ℕ) → Result (List Placed2) ℕ → Option ℕ
place_in misfit (Ok placed) = misfit placed
place_in misfit (Err place) = Some place

-- where the file of this number is refused: its frame, its records, or a misfit among them
abbrev pub bad_place : (List Placed2 → Option ℕ) → ℕ → List ℕ → Option ℕ
bad_place misfit owner bytes = place_in misfit (placed2_log_for owner bytes)

module _ {D : Type 0} {d : Ghosts D} where
  -- the log's disk, which is handed back where there is no log
  abbrev pub disk_loaded : Result (Log D d × List Placed2) (LoadRefused D) → D
  disk_loaded (Ok loaded) = disk_of loaded.0
  disk_loaded (Err refused) = refused.disk

module _ {D : Type 0} (d : Ghosts D) where
  -- The log that stands on the disk, with its records and their places; the file isn't changed. The log is open, with nothing buffered.
  pub record LoadsRecords (old : D) (fingerprint : List ℕ) (owner : ℕ) (loaded : Log D d × List Placed2) : Type 0 where
    pub read : d.tells old → placed2_log_of (d.seen old) ≡ Ok loaded.1
    pub fit : AllByRecursion PlacedFits2 loaded.1
    pub bytes : d.tells old → d.seen (disk_of loaded.0) ≡ d.seen old
    pub own : d.tells old → fingerprint_in (d.seen old) ≡ fingerprint
    pub owned : d.tells old → owner_in (d.seen old) ≡ owner
    pub sized : d.tells old → size_in (d.seen old) ≡ Some (size_of loaded.0)
    pub buffered : buffered_of loaded.0 ≡ []
    pub is_open : is_closed loaded.0 ≡ false

  -- the file is no log, or has bytes that are no records, from this place on, and is of no other script; it isn't changed
  pub record IsBad (old : D) (fingerprint : List ℕ) (owner at : ℕ) (new : D) : Type 0 where
    pub place : d.tells old → placed2_log_for owner (d.seen old) ≡ Err at
    pub not_foreign : d.tells old → IsNotForeign fingerprint (d.seen old)
    pub bytes : d.tells old → d.seen new ≡ d.seen old

  -- why no records are loaded, and what then stands
  abbrev pub RefusesRecords : D → List ℕ → ℕ → D → LoadWhy → Type 0
  RefusesRecords old fingerprint owner new (Bad place) = IsBad old fingerprint owner place new
  RefusesRecords old fingerprint owner new (Foreign kept) = d.tells old → IsForeign fingerprint (d.seen old) kept × (d.seen new ≡ d.seen old)
  RefusesRecords old fingerprint owner new Failed = Rose (d.faults old) (d.faults new) × IsUnmoved d old new
  RefusesRecords old fingerprint owner new Stopped = d.stopped new × IsUnmoved d old new
  RefusesRecords old fingerprint owner new Memory = d.tells old → d.seen new ≡ d.seen old

  -- the file is refused at this place, and is of no other script; it isn't changed
  pub record IsRefusedAt (misfit : List Placed2 → Option ℕ) (old : D) (fingerprint : List ℕ) (owner at : ℕ) (new : D) : Type 0 where
    pub place : d.tells old → bad_place misfit owner (d.seen old) ≡ Some at
    pub not_foreign : d.tells old → IsNotForeign fingerprint (d.seen old)
    pub bytes : d.tells old → d.seen new ≡ d.seen old

  -- why a component doesn't come up from its log, and what then stands
  abbrev pub RefusesToComeUp : (List Placed2 → Option ℕ) → D → List ℕ → ℕ → D → LoadWhy → Type 0
  RefusesToComeUp misfit old fingerprint owner new (Bad place) = IsRefusedAt misfit old fingerprint owner place new
  RefusesToComeUp misfit old fingerprint owner new (Foreign kept) = d.tells old → IsForeign fingerprint (d.seen old) kept × (d.seen new ≡ d.seen old)
  RefusesToComeUp misfit old fingerprint owner new Failed = Rose (d.faults old) (d.faults new)
  RefusesToComeUp misfit old fingerprint owner new Stopped = d.stopped new
  RefusesToComeUp misfit old fingerprint owner new Memory = d.tells old → d.seen new ≡ d.seen old
