-- What a migrated log is.
use Rattle.std.specs.Prelude.{◌≡◌, ◌≤◌, ℕ, List, length, Ok}
use Rattle.ic_base.specs.declared.limits.TheConstants.{FIRST_GATE, LOG_BYTES}
use Rattle.ic_base.specs.declared.record.Batch.{Batch}
use Rattle.ic_base.specs.declared.record.Record.{Record}
use Rattle.def_log.specs.Directory.{slots_in}
use Rattle.def_log.specs.Frame.{placed, frame_of, fingerprint_in, owner_in}
use Rattle.def_log.specs.Log.{log_of}
use Rattle.def_former.specs.Frame.{former_frame_of}
use Rattle.def_former.specs.Log.{former_log_of}
use Rattle.def_former.specs.Migrated.{payloads_of, slots_for, migrated}

-- a file within the limit is the log of this component of the scenario, with these batches, the slots of those that end with a
-- Checkpoint, and these records
pub record IsLogFor (fingerprint : List ℕ) (owner : ℕ) (bs : List Batch) (rs : List Record) (file : List ℕ) : Type 0 where
  pub records : log_of file ≡ Ok rs
  pub batches : frame_of file ≡ Ok (placed FIRST_GATE (payloads_of bs))
  pub slots : slots_in file ≡ slots_for (payloads_of bs)
  pub fingerprint_same : fingerprint_in file ≡ fingerprint
  pub owner_same : owner_in file ≡ owner
  pub short : length file ≤ LOG_BYTES

-- a log of the former format that reads is migrated to one that reads, with the same records
abbrev pub MigratedReadsTheSame : Type 0
MigratedReadsTheSame = (fingerprint : List ℕ) (owner : ℕ) (old : List ℕ) (bs : List Batch) (rs : List Record) → length fingerprint ≡ 32
    → former_frame_of old ≡ Ok bs → former_log_of old ≡ Ok rs → IsLogFor fingerprint owner bs rs (migrated fingerprint owner bs)
