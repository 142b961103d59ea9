-- The new logs that stand for those of the former format.
use Rattle.std.specs.Prelude.{◌≡◌, ℕ, List, length, slice_get, Some, Ok}
use Rattle.ic_base.specs.declared.messages.ComId.{ComId}
use Rattle.ic_base.specs.declared.record.Batch.{Batch}
use Rattle.ic_base.specs.declared.record.Record.{Record}
use Rattle.def_log.specs.Frame.{fingerprint_in}
use Rattle.def_former.specs.Frame.{former_frame_of}
use Rattle.def_former.specs.Log.{former_log_of}
use Rattle.def_former.specs.Migrated.{migrated}
use Rattle.ic_disk.specs.declared.disk.Disk.{Ghosts}
use Rattle.ic_opening.specs.NewLogs.{IsNewLog}

-- the log is the file of this component that stands for these batches
pub record IsMigrated (fingerprint : List ℕ) (owner : ℕ) (batches : List Batch) (log : List ℕ) : Type 0 where
  pub is : log ≡ migrated fingerprint owner batches
  pub new : IsNewLog log

-- the bytes are a log of the former format of this scenario, with these batches, whose records are read
pub record IsFormerLog (fingerprint bytes : List ℕ) (batches : List Batch) : Type 0 where
  pub frame : former_frame_of bytes ≡ Ok batches
  pub records : List Record
  pub log : former_log_of bytes ≡ Ok records
  pub fingerprint_same : fingerprint_in bytes ≡ fingerprint

module _ {D : Type 0} (d : Ghosts D) where
  -- the log stands for the one of the former format of this component on the disk
  pub record IsNewLogOf (fingerprint : List ℕ) (c : ComId) (disk : D) (log : List ℕ) : Type 0 where
    pub batches : List Batch
    pub stands : IsMigrated fingerprint c.0 batches log
    pub former : d.tells disk → IsFormerLog fingerprint (d.seen disk) batches

  -- these logs stand for those of the components, each on its disk
  pub record AreNewLogsOf (fingerprint : List ℕ) (coms : List ComId) (disks : List D) (logs : List (List ℕ)) : Type 0 where
    pub long : length logs ≡ length coms
    pub each : (i : ℕ) (c : ComId) (disk : D) (log : List ℕ) → slice_get coms i ≡ Some c → slice_get disks i ≡ Some disk → slice_get logs i ≡ Some log → IsNewLogOf fingerprint c disk log
