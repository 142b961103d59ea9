-- What contracts see of the records over a log.
use Rattle.std.specs.Prelude.{◌≡◌, ℕ, Bool, List}
use Rattle.def_two.specs.declared.moves.Record2.{Record2}
use Rattle.ic_gate.specs.Logs as logs
use Rattle.ic_two.specs.declared.record_log.RecordLog2.{RecordLog2}

-- the records, all of which stand in the file
abbrev pub records_of : {D : Type 0} {b : _} → RecordLog2 D b → List Record2
records_of l = l.records

-- the disk that the log is on
abbrev pub disk_of : {D : Type 0} {b : _} → RecordLog2 D b → D
disk_of l = logs.disk_of l.log

-- how many bytes of the file are the log
abbrev pub size_of : {D : Type 0} {b : _} → RecordLog2 D b → ℕ
size_of l = logs.size_of l.log

-- whether it takes nothing more
abbrev pub is_closed : {D : Type 0} {b : _} → RecordLog2 D b → Bool
is_closed l = logs.is_closed l.log

-- the same records, in a log of the same size, which is closed just if it was
pub record IsSame {D : Type 0} {b : _} (old new : RecordLog2 D b) : Type 0 where
  pub records : records_of new ≡ records_of old
  pub size : size_of new ≡ size_of old
  pub closed : is_closed new ≡ is_closed old
