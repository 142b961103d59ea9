-- What the calls of the records over a log come to, and why they are refused.
use Rattle.std.specs.Prelude.{◌≡◌, ℕ, ◌+◌, ◌-◌, Bool, true, false, not, ◌&&◌, if◌then◌else◌, List, [], ◌∷◌, ◌++◌, Some, unwrap_or}
use Rattle.ic_base.specs.declared.record.Record.{Record}
use Rattle.def_log.specs.Changes.{IsOfSame, IsOldOrMarked}
use Rattle.def_log.specs.Gated.{GatedWrite, mark_writes}
use Rattle.def_log.specs.Log.{end_with_checkpoint}
use Rattle.def_log.specs.Spelling.{spellings}
use Rattle.def_state.specs.Positions.{end_of}
use Rattle.def_step.specs.Pcom.{Log as Split, force_log}
use Rattle.def_step.specs.Room.{is_empty, has_no_room}
use Rattle.ic_disk.specs.Causes.{Rose}
use Rattle.ic_disk.specs.declared.disk.Disk.{Ghosts}
use Rattle.ic_gate.specs.Calls.{force_writes}
use Rattle.ic_gate.specs.Logs as logs
use Rattle.ic_gate.specs.declared.log.Log.{Log}
use Rattle.ic_gate.specs.declared.refusals.StepRefused.{StepRefused}
use Rattle.ic_gate.specs.declared.refusals.StepRefused.TheVariants.{Failed, Stopped, Full, Memory}
use Rattle.ic_gate.specs.RecordFiles.{ReadsOn}
use Rattle.ic_gate.specs.RecordLogs.{records_of, disk_of, start_of, size_of, used_of, is_closed}
use Rattle.ic_gate.specs.declared.record_log.RecordLog.{RecordLog}

-- the size of a log with these records as one batch more; no records are no batch
abbrev pub size_with : ℕ → List Record → ℕ
size_with size [] = size
size_with size (r ∷ rs) = size + 5 + end_of (r ∷ rs)

-- The writes by which these records are forced, behind a log of this size with so many open slots: their batch, if there are any, and a mark
-- of it where it ends with a Checkpoint and a slot is free.
abbrev pub record_writes : ℕ → ℕ → List Record → List GatedWrite
record_writes size used records = force_writes size (spellings records) ++ (if end_with_checkpoint records then mark_writes used (size - 1) else [])

module _ {D : Type 0} {d : Ghosts D} where
  -- over this log, with these records, all of which stand in the file
  pub record IsOver (log : Log D d) (records : List Record) (new : RecordLog D d) : Type 0 where
    pub forced : (records_of new).forced ≡ records
    pub buffered : (records_of new).buffered ≡ []
    pub disk : disk_of new ≡ logs.disk_of log
    pub start : start_of new ≡ logs.start_of log
    pub size : size_of new ≡ logs.size_of log
    pub is_open : is_closed new ≡ false

  -- these records, if there are any, would make the file pass its limit with those that wait
  abbrev pub LacksRoom : RecordLog D d → List Record → Bool → Type 0
  LacksRoom l adds is = (not (is_empty adds) && has_no_room (size_of l) ((records_of l).buffered ++ adds)) ≡ is

  -- the records wait for the next force, last
  pub record Appends (old : RecordLog D d) (adds : List Record) (new : RecordLog D d) : Type 0 where
    pub forced : (records_of new).forced ≡ (records_of old).forced
    pub buffered : (records_of new).buffered ≡ (records_of old).buffered ++ adds
    pub room : LacksRoom old adds false

  -- it has the same beginning, size and directory, and is open
  pub record StaysWhere (old new : RecordLog D d) : Type 0 where
    pub start : start_of new ≡ start_of old
    pub size : size_of new ≡ size_of old
    pub used : used_of new ≡ used_of old
    pub is_open : is_closed new ≡ false

  -- why records aren't added; those that there are stay
  abbrev pub AddsNone : RecordLog D d → List Record → Split → StepRefused → Type 0
  AddsNone old adds now Failed = ⊥
  AddsNone old adds now Stopped = ⊥
  AddsNone old adds now Full = (now ≡ records_of old) × LacksRoom old adds true
  AddsNone old adds now Memory = now ≡ records_of old

  abbrev pub FailsToAppend : RecordLog D d → List Record → RecordLog D d → StepRefused → Type 0
  FailsToAppend old adds new why = AddsNone old adds (records_of new) why

  -- all records stand in the file
  pub record Forces (old new : RecordLog D d) : Type 0 where
    pub records : records_of new ≡ force_log (records_of old)
    pub size : size_of new ≡ size_with (size_of old) (records_of old).buffered
    pub is_open : is_closed new ≡ false

  -- a file that has the last batch marked, or not
  abbrev pub IsMarkedOrNot : RecordLog D d → List ℕ → Type 0
  IsMarkedOrNot l image = IsOldOrMarked (start_of l) (d.seen (disk_of l)) (unwrap_or (logs.last_of l.log) 0) image

  -- all records stand in the file, whose last batch may be marked where it ends with a Checkpoint
  pub record WritesBatch (old new : RecordLog D d) : Type 0 where
    pub forces : Forces old new
    pub used : used_of new ≡ used_of old
    pub last : end_with_checkpoint (records_of old).buffered ≡ true → logs.last_of new.log ≡ Some (size_of old - 1)
    pub reads : end_with_checkpoint (records_of old).buffered ≡ true → d.tells (disk_of old) → (image : List ℕ) → IsMarkedOrNot new image
        → ReadsOn (start_of old) (d.seen (disk_of old)) (records_of old).forced image ((records_of old).forced ++ (records_of old).buffered)

  -- the same records stand in the file
  pub record Marks (old new : RecordLog D d) : Type 0 where
    pub records : records_of new ≡ records_of old
    pub size : size_of new ≡ size_of old
    pub is_open : is_closed new ≡ false

  -- It begins where it began. While it is open the file is that of the same component, and the records that are forced now stand in place
  -- of those that were; where nothing waited, its bytes are as before.
  pub record KeepsFile (old new : RecordLog D d) : Type 0 where
    pub start : start_of new ≡ start_of old
    pub whose : d.tells (disk_of old) → is_closed new ≡ false → IsOfSame (d.seen (disk_of old)) (d.seen (disk_of new))
    pub reads : d.tells (disk_of old) → is_closed new ≡ false → ReadsOn (start_of old) (d.seen (disk_of old)) (records_of old).forced (d.seen (disk_of new)) (records_of new).forced
    pub still : (records_of old).buffered ≡ [] → disk_of new ≡ disk_of old

  -- why what waits isn't forced, and what then stands
  abbrev pub FailsToForce : RecordLog D d → RecordLog D d → StepRefused → Type 0
  FailsToForce old new Failed = (is_closed new ≡ true) × Rose (d.faults (disk_of old)) (d.faults (disk_of new))
  FailsToForce old new Stopped = (is_closed new ≡ true) × d.stopped (disk_of new)
  FailsToForce old new Full = ⊥
  FailsToForce old new Memory = ⊥
