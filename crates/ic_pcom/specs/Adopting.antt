-- A Pcom that comes up as its standby, over its own log, and why it doesn't.
use Rattle.std.specs.Prelude.{◌≡◌, ℕ, ◌+◌, ◌-◌, ◌≤◌, nat_lt, ⊤, true, false, cond, List, length, drop, Option, Some, Result, Ok, Err, option_map}
use Rattle.ic_base.specs.declared.limits.TheConstants.{FIRST_GATE}
use Rattle.ic_base.specs.declared.messages.ComId.{ComId}
use Rattle.ic_base.specs.declared.record.Record.{Record}
use Rattle.ic_base.specs.declared.scenario.Program.{Program}
use Rattle.def_log.specs.Frame.{fingerprint_in, owner_in, IsForeign}
use Rattle.def_log.specs.Loads.{placed_log_for}
use Rattle.def_log.specs.Log.{Placed, log_of, records_in}
use Rattle.def_log.specs.Sizes.{size_in}
use Rattle.def_run.specs.Refusals.{place_of}
use Rattle.def_standby.specs.Standbys.{play_all, stops_at}
use Rattle.def_standby.specs.TakeOvers.{taken_over}
use Rattle.def_state.specs.Hist.{Contents}
use Rattle.def_state.specs.Vol.{Vol, regenerated, numbers_fit}
use Rattle.ic_disk.specs.Causes.{Rose}
use Rattle.ic_disk.specs.declared.disk.Disk.{Ghosts}
use Rattle.ic_gate.specs.Reading.{IsAtRest}
use Rattle.ic_gate.specs.RecordFiles.{read_or_none}
use Rattle.ic_gate.specs.Refusals.{IsNotForeign}
use Rattle.ic_gate.specs.declared.refusals.LoadRefused.{LoadRefused}
use Rattle.ic_gate.specs.declared.refusals.LoadWhy.{LoadWhy}
use Rattle.ic_gate.specs.declared.refusals.LoadWhy.TheVariants.{Bad, Foreign, Failed, Stopped, Memory}
use Rattle.ic_replay.specs.Playing.{counted_from}
use Rattle.ic_pcom.specs.Views.{component_of, com_of, disk_of, start_of, size_of, is_closed, played_of}
use Rattle.ic_pcom.specs.declared.pcom.Pcom.{Pcom}

-- the place in the file of the record at which a standby stops that has played so many of these records
abbrev pub stop_among : Program → ComId → Contents → Vol → ℕ → List Placed → Option ℕ
stop_among program c contents v have rs = option_map (place_of rs) (counted_from have (stops_at program c contents v (drop have (records_in rs))))

-- the same, or the log's size where it hasn't as many records
abbrev pub stop_place : Program → ComId → Contents → Vol → ℕ → Option ℕ → Result (List Placed) ℕ → Option ℕ
stop_place program c contents v have size (Ok rs) = cond (nat_lt (length rs) have) size (stop_among program c contents v have rs)
stop_place program c contents v have size (Err place) = Some place

-- the place at which the file of a component is refused: its frame, its records, its size, or the record at which the standby stops
abbrev pub stop_in : Program → ComId → Contents → Vol → ℕ → List ℕ → Option ℕ
stop_in program c contents v have bytes = stop_place program c contents v have (size_in bytes) (placed_log_for c.0 bytes)

-- how many records of a file a takeover plays
abbrev pub behind_in : ℕ → List ℕ → ℕ
behind_in have bytes = length (read_or_none (log_of bytes)) - have

-- the records behind the first `have` are played, and what they come to is regenerated
pub record IsPlayedOn (program : Program) (c : ComId) (contents : Contents) (old : Vol) (have : ℕ) (placed : List Placed) (new : Vol) (records : List Record) : Type 0 where
  pub state : Vol
  pub plays : play_all program c contents old (drop have (records_in placed)) ≡ Some state
  pub is : new ≡ regenerated state
  pub limits : numbers_fit state ≡ true
  pub whole : records ≡ records_in placed
  pub within : have ≤ length records

-- why they aren't, in a log of this size
abbrev pub FailsToPlayOn : Program → ComId → Contents → Vol → ℕ → ℕ → List Placed → LoadWhy → Type 0
FailsToPlayOn program c contents v have size rs (Bad place) = stop_place program c contents v have (Some size) (Ok rs) ≡ Some place
FailsToPlayOn program c contents v have size rs (Foreign kept) = ⊥
FailsToPlayOn program c contents v have size rs Failed = ⊥
FailsToPlayOn program c contents v have size rs Stopped = ⊥
FailsToPlayOn program c contents v have size rs Memory = ⊤

module _ {D : Type 0} {d : Ghosts D} where
  -- its disk, which is handed back where there is no Pcom
  abbrev pub disk_kept : Result (Pcom D d) (LoadRefused D) → D
  disk_kept (Ok up) = disk_of up
  disk_kept (Err refused) = refused.disk

module _ {D : Type 0} (d : Ghosts D) where
  -- It is up over the records of the log on the disk, of which those behind the first `have` were played, each with its content;
  -- all that it holds is due, and nothing is told. The file stays.
  pub record Adopts (program : Program) (c : ComId) (old : D) (fingerprint : List ℕ) (contents : Contents) (v : Vol) (have : ℕ) (new : Pcom D d) : Type 0 where
    pub records : List Record
    pub state : Vol
    pub plays : play_all program c contents v (drop have records) ≡ Some state
    pub within : have ≤ length records
    pub leads : component_of new ≡ taken_over records state
    pub read : d.tells old → log_of (d.seen old) ≡ Ok records
    pub start : start_of new ≡ FIRST_GATE
    pub sized : d.tells old → size_in (d.seen old) ≡ Some (size_of new)
    pub own : d.tells old → fingerprint_in (d.seen old) ≡ fingerprint
    pub owned : d.tells old → owner_in (d.seen old) ≡ c.0
    pub bytes : d.tells old → d.seen (disk_of new) ≡ d.seen old
    pub played : played_of new + have ≡ length records
    pub which : com_of new ≡ c
    pub is_open : is_closed new ≡ false

  -- the file is refused at this place, and is of no other scenario; it isn't changed
  pub record IsStoppedAt (program : Program) (c : ComId) (old : D) (fingerprint : List ℕ) (contents : Contents) (v : Vol) (have : ℕ) (at : ℕ) (new : D) : Type 0 where
    pub place : d.tells old → stop_in program c contents v have (d.seen old) ≡ Some at
    pub not_foreign : d.tells old → IsNotForeign fingerprint (d.seen old)
    pub bytes : d.tells old → d.seen new ≡ d.seen old

  -- why it doesn't come up, and what then stands
  abbrev pub RefusesToAdopt : Program → ComId → D → List ℕ → Contents → Vol → ℕ → D → LoadWhy → Type 0
  RefusesToAdopt program c old fingerprint contents v have new (Bad place) = IsStoppedAt program c old fingerprint contents v have place new
  RefusesToAdopt program c old fingerprint contents v have new (Foreign kept) = d.tells old → IsForeign fingerprint (d.seen old) kept × (d.seen new ≡ d.seen old)
  RefusesToAdopt program c old fingerprint contents v have new Failed = Rose (d.faults old) (d.faults new)
  RefusesToAdopt program c old fingerprint contents v have new Stopped = d.stopped new
  RefusesToAdopt program c old fingerprint contents v have new Memory = IsAtRest d old new
