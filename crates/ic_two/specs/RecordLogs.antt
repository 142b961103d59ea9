-- What it comes to that a record is added to a log and forced.
use Rattle.std.specs.Prelude.{◌≡◌, ◌⊎◌, ℕ, ◌+◌, ◌<◌, ◌≤◌, true, false, List, [], ◌∷◌, ◌++◌, length, Ok}
use Rattle.ic_base.specs.declared.limits.TheConstants.{LOG_BYTES}
use Rattle.def_log.specs.Changes.{IsOfSame}
use Rattle.def_two.specs.declared.moves.Record2.{Record2}
use Rattle.def_two.specs.Records.{spelling2}
use Rattle.def_two.specs.Logs.{log2_of}
use Rattle.ic_disk.specs.Causes.{Rose}
use Rattle.ic_disk.specs.declared.disk.Disk.{Ghosts}
use Rattle.ic_gate.specs.Logs as logs
use Rattle.ic_gate.specs.declared.log.Log.{Log}
use Rattle.ic_gate.specs.declared.refusals.StepRefused.{StepRefused}
use Rattle.ic_gate.specs.declared.refusals.StepRefused.TheVariants.{Failed, Stopped, Full, Memory}
use Rattle.ic_two.specs.Views.{records_of, disk_of, size_of, is_closed}
use Rattle.ic_two.specs.declared.record_log.RecordLog2.{RecordLog2}

-- the log has the old records, or these and the new one, and is that of the same component
abbrev pub IsBeforeOrBehind : List ℕ → List Record2 → Record2 → List ℕ → Type 0
IsBeforeOrBehind old records r image =
    IsOfSame old image × ((log2_of image ≡ Ok records) ⊎ (log2_of image ≡ Ok (records ++ r ∷ [])))

-- the size of a log with one record more
abbrev pub size_with : ℕ → Record2 → ℕ
size_with size r = size + 5 + length (spelling2 r)

module _ {D : Type 0} {d : Ghosts D} where
  -- over this log, with these records
  pub record IsOver (log : Log D d) (rs : List Record2) (new : RecordLog2 D d) : Type 0 where
    pub records : records_of new ≡ rs
    pub disk : disk_of new ≡ logs.disk_of log
    pub size : size_of new ≡ logs.size_of log
    pub is_open : is_closed new ≡ false

  -- the record stands in the file behind the others, for which there was room, and the file is that of the same component
  pub record AddsRecord (old : RecordLog2 D d) (r : Record2) (new : RecordLog2 D d) : Type 0 where
    pub records : records_of new ≡ records_of old ++ r ∷ []
    pub room : size_with (size_of old) r ≤ LOG_BYTES
    pub size : size_of new ≡ size_with (size_of old) r
    pub is_open : is_closed new ≡ false
    pub log : d.tells (disk_of old) → log2_of (d.seen (disk_of new)) ≡ Ok (records_of new)
    pub whose : d.tells (disk_of old) → IsOfSame (d.seen (disk_of old)) (d.seen (disk_of new))

  -- records and file are as they were
  pub record IsUnmoved (old new : RecordLog2 D d) : Type 0 where
    pub records : records_of new ≡ records_of old
    pub size : size_of new ≡ size_of old
    pub bytes : d.tells (disk_of old) → d.seen (disk_of new) ≡ d.seen (disk_of old)
    pub is_open : is_closed new ≡ false

  -- why it isn't added, and what then stands
  abbrev pub FailsToAddRecord : RecordLog2 D d → Record2 → RecordLog2 D d → StepRefused → Type 0
  FailsToAddRecord old r new Failed = (is_closed new ≡ true) × Rose (d.faults (disk_of old)) (d.faults (disk_of new))
  FailsToAddRecord old r new Stopped = (is_closed new ≡ true) × d.stopped (disk_of new) × (size_with (size_of old) r ≤ LOG_BYTES)
  FailsToAddRecord old r new Full = IsUnmoved old new × (LOG_BYTES < size_with (size_of old) r)
  FailsToAddRecord old r new Memory = IsUnmoved old new
