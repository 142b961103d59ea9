-- What contracts see of a Pcom, and of what is told of its step.
use Rattle.std.specs.Prelude.{◌≡◌, ℕ, Bool, true, false, List, [], ◌∷◌, None, Result, Ok, Err}
use Rattle.ic_base.specs.declared.messages.ComId.{ComId}
use Rattle.ic_base.specs.declared.messages.Packet.{Packet}
use Rattle.def_step.specs.Pcom as step
use Rattle.ic_gate.specs.declared.refusals.LoadRefused.{LoadRefused}
use Rattle.ic_gate.specs.RecordLogs as records
use Rattle.ic_pcom.specs.Stages.{vol_of, rest_of}
use Rattle.ic_pcom.specs.declared.pcom.Pcom.{Pcom}
use Rattle.ic_pcom.specs.declared.step.Step.{Step}

-- the component: its records, forced and buffered, its state, and what it has still to play
abbrev pub component_of : {D : Type 0} {b : _} → Pcom D b → step.Pcom
component_of p = record { log = records.records_of p.log; vol = vol_of p.stage; rest = rest_of p.stage }

-- which component of its program it is
abbrev pub com_of : {D : Type 0} {b : _} → Pcom D b → ComId
com_of p = p.«com»

-- the disk that its log is on
abbrev pub disk_of : {D : Type 0} {b : _} → Pcom D b → D
disk_of p = records.disk_of p.log

-- the gate of the file from which its records are read
abbrev pub start_of : {D : Type 0} {b : _} → Pcom D b → ℕ
start_of p = records.start_of p.log

-- how many bytes of the file are its log
abbrev pub size_of : {D : Type 0} {b : _} → Pcom D b → ℕ
size_of p = records.size_of p.log

-- how many slots of its log's directory are open
abbrev pub used_of : {D : Type 0} {b : _} → Pcom D b → ℕ
used_of p = records.used_of p.log

-- whether it makes no further step
abbrev pub is_closed : {D : Type 0} {b : _} → Pcom D b → Bool
is_closed p = p.closed

-- how many records it has played since it was recovered
abbrev pub played_of : {D : Type 0} {b : _} → Pcom D b → ℕ
played_of p = p.played

-- it is the same component, with the same records, state and log, and is closed just if it was
pub record IsSamePcom {D : Type 0} {b : _} (old new : Pcom D b) : Type 0 where
  pub same : component_of new ≡ component_of old
  pub which : com_of new ≡ com_of old
  pub start : start_of new ≡ start_of old
  pub size : size_of new ≡ size_of old
  pub used : used_of new ≡ used_of old
  pub closed : is_closed new ≡ is_closed old
  pub played : played_of new ≡ played_of old

-- its disk, which is handed back where there is no Pcom
abbrev pub disk_left : {D : Type 0} {b : _} → Result (Pcom D b × Step) (LoadRefused D) → D
disk_left (Ok up) = disk_of up.0
disk_left (Err refused) = refused.disk

-- what is told of a step -------------------------------------------------------------------

abbrev pub is_took : step.StepKind → Bool
is_took step.Took = true
is_took step.Fed = false
is_took step.Busy = false
is_took step.Changed = false
is_took step.Same = false

abbrev pub is_fed : step.StepKind → Bool
is_fed step.Took = false
is_fed step.Fed = true
is_fed step.Busy = false
is_fed step.Changed = false
is_fed step.Same = false

abbrev pub is_busy : step.StepKind → Bool
is_busy step.Took = false
is_busy step.Fed = false
is_busy step.Busy = true
is_busy step.Changed = false
is_busy step.Same = false

abbrev pub is_some_put : List Packet → Bool
is_some_put [] = false
is_some_put (p ∷ ps) = true

-- something changed, or was put out
abbrev pub is_used : step.StepKind → List Packet → Bool
is_used step.Took puts = false
is_used step.Fed puts = false
is_used step.Busy puts = false
is_used step.Changed puts = true
is_used step.Same puts = is_some_put puts

-- what is told of a step of the definition
abbrev pub told_of : step.StepResult → Step
told_of t = record {
  puts = t.puts;
  took = is_took t.word;
  fed = is_fed t.word;
  used = is_used t.word t.puts;
  busy = is_busy t.word;
  shown = t.shown;
  aborted = t.aborted;
}

-- nothing is told
abbrev pub told_nothing : Step
told_nothing = record { puts = []; took = false; fed = false; used = false; busy = false; shown = None; aborted = None }
