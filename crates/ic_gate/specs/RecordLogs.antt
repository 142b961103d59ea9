-- What contracts see of the records over a log.
use Rattle.std.specs.Prelude.{◌≡◌, ℕ, Bool, length, take, drop}
use Rattle.def_step.specs.Pcom as step
use Rattle.ic_gate.specs.Logs as logs
use Rattle.ic_gate.specs.declared.record_log.RecordLog.{RecordLog}

-- the records that stand in the file, and those that wait for the next force
abbrev pub records_of : {D : Type 0} {b : _} → RecordLog D b → step.Log
records_of l = record { forced = take l.forced l.records; buffered = drop l.forced l.records }

-- the disk that the log is on
abbrev pub disk_of : {D : Type 0} {b : _} → RecordLog D b → D
disk_of l = logs.disk_of l.log

-- the gate from which its records are read
abbrev pub start_of : {D : Type 0} {b : _} → RecordLog D b → ℕ
start_of l = logs.start_of l.log

-- how many bytes of the file are the log
abbrev pub size_of : {D : Type 0} {b : _} → RecordLog D b → ℕ
size_of l = logs.size_of l.log

-- how many slots of its directory are open
abbrev pub used_of : {D : Type 0} {b : _} → RecordLog D b → ℕ
used_of l = length (logs.slots_of l.log)

-- whether it takes nothing more
abbrev pub is_closed : {D : Type 0} {b : _} → RecordLog D b → Bool
is_closed l = logs.is_closed l.log

-- it has the same records, beginning, size and directory, and is closed just if it was
pub record IsSameLog {D : Type 0} {b : _} (old new : RecordLog D b) : Type 0 where
  pub records : records_of new ≡ records_of old
  pub start : start_of new ≡ start_of old
  pub size : size_of new ≡ size_of old
  pub used : used_of new ≡ used_of old
  pub closed : is_closed new ≡ is_closed old
