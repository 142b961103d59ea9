-- What it comes to that records are added and all that waits is forced, where that is asked for.
use Rattle.std.specs.Prelude.{◌≡◌, Bool, true, false, List, [], ◌++◌}
use Rattle.ic_base.specs.declared.record.Record.{Record}
use Rattle.def_log.specs.Changes.{IsOfSame}
use Rattle.def_step.specs.Pcom.{Log as Split, force_log}
use Rattle.ic_disk.specs.Causes.{Rose}
use Rattle.ic_disk.specs.declared.disk.Disk.{Ghosts}
use Rattle.ic_gate.specs.declared.refusals.StepRefused.{StepRefused}
use Rattle.ic_gate.specs.declared.refusals.StepRefused.TheVariants.{Failed, Stopped, Full, Memory}
use Rattle.ic_gate.specs.RecordCalls.{size_with, LacksRoom}
use Rattle.ic_gate.specs.RecordFiles.{ReadsOn, CanStand}
use Rattle.ic_gate.specs.RecordLogs.{records_of, disk_of, start_of, size_of, is_closed}
use Rattle.ic_gate.specs.declared.record_log.RecordLog.{RecordLog}

-- the records that wait, with these behind them
abbrev pub adding : Split → List Record → Split
adding l adds = record l { buffered = l.buffered ++ adds }

-- the records that are forced
abbrev pub forced_if : Bool → Split → List Record
forced_if true l = l.buffered
forced_if false l = []

-- the records behind that
abbrev pub split_if : Bool → Split → Split
split_if true l = force_log l
split_if false l = l

module _ {D : Type 0} {d : Ghosts D} where
  -- what is forced
  abbrev pub batch_of : RecordLog D d → List Record → Bool → List Record
  batch_of old adds is = forced_if is (adding (records_of old) adds)

  -- these records may wait behind those that do, and could stand in the file with them
  pub record CanTake (old : RecordLog D d) (adds : List Record) : Type 0 where
    pub room : LacksRoom old adds false
    pub stands : CanStand (size_of old) (adding (records_of old) adds).buffered

  -- the records are added, and all that waits stands in the file where that is asked for
  pub record Commits (old : RecordLog D d) (adds : List Record) (is : Bool) (new : RecordLog D d) : Type 0 where
    pub records : records_of new ≡ split_if is (adding (records_of old) adds)
    pub takes : CanTake old adds
    pub size : size_of new ≡ size_with (size_of old) (batch_of old adds is)
    pub is_open : is_closed new ≡ false

  -- It begins where it began. While it is open the file is that of the same component, and the records that are forced now stand in place
  -- of those that were; where nothing is forced, its bytes are as before.
  pub record KeepsBytes (old : RecordLog D d) (forced : List Record) (new : RecordLog D d) : Type 0 where
    pub start : start_of new ≡ start_of old
    pub whose : d.tells (disk_of old) → is_closed new ≡ false → IsOfSame (d.seen (disk_of old)) (d.seen (disk_of new))
    pub reads : d.tells (disk_of old) → is_closed new ≡ false → ReadsOn (start_of old) (d.seen (disk_of old)) (records_of old).forced (d.seen (disk_of new)) (records_of new).forced
    pub still : d.tells (disk_of old) → forced ≡ [] → d.seen (disk_of new) ≡ d.seen (disk_of old)

  -- records and file are as they were
  pub record IsStill (old new : RecordLog D d) : Type 0 where
    pub records : records_of new ≡ records_of old
    pub size : size_of new ≡ size_of old
    pub bytes : d.tells (disk_of old) → d.seen (disk_of new) ≡ d.seen (disk_of old)
    pub is_open : is_closed new ≡ false

  -- why it isn't done, and what then stands
  abbrev pub FailsToCommit : RecordLog D d → List Record → RecordLog D d → StepRefused → Type 0
  FailsToCommit old adds new Failed = (is_closed new ≡ true) × Rose (d.faults (disk_of old)) (d.faults (disk_of new)) × CanTake old adds
  FailsToCommit old adds new Stopped = (is_closed new ≡ true) × d.stopped (disk_of new) × CanTake old adds
  FailsToCommit old adds new Full = IsStill old new × LacksRoom old adds true
  FailsToCommit old adds new Memory = IsStill old new
