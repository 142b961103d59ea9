-- The logs that files hold, and what an audit of them comes to.
use Rattle.std.specs.Prelude.{ℕ, ◌+◌, Bool, true, false, cond, List, [], ◌∷◌, Result, Ok, Err}
use Rattle.ic_base.specs.declared.messages.ComId.{ComId}
use Rattle.ic_base.specs.declared.messages.Kind.{Kind}
use Rattle.ic_base.specs.declared.messages.Kind.TheVariants as kinds
use Rattle.ic_base.specs.declared.record.Record.{Record}
use Rattle.ic_base.specs.declared.report.Fault.{Fault}
use Rattle.ic_base.specs.declared.report.Fault.TheVariants as faults
use Rattle.ic_base.specs.declared.scenario.Component.{Component}
use Rattle.ic_base.specs.declared.scenario.Program.{Program}
use Rattle.def_log.specs.Log.{log_of}
use Rattle.def_log.specs.Loads.{Load, Holds, Foreign, Bad, load_of}
use Rattle.def_run.specs.Audits.{audit_of}

infixl 10 ◌>>=◌
abbrev pub ◌>>=◌ : {A B : Type 0} → Result A Fault → (A → Result B Fault) → Result B Fault
(Ok x) >>= f = f x
(Err fault) >>= f = Err fault

-- the records of a component's log, or the place at which it is refused
abbrev pub or_bad : ComId → Result (List Record) ℕ → Result (List Record) Fault
or_bad c (Ok records) = Ok records
or_bad c (Err place) = Err (faults.Bad c place)

-- the records of a component's file that is loaded with the fingerprint of a scenario; a foreign log is told before its batches are looked at
abbrev pub behind_load : List ℕ → ComId → List ℕ → Load → Result (List Record) Fault
behind_load given c file (Holds batches) = or_bad c (log_of file)
behind_load given c file (Foreign kept) = Err (faults.Foreign c kept given)
behind_load given c file (Bad place) = Err (faults.Bad c place)

-- an Xcom has no log
abbrev pub has_log : Kind → Bool
has_log kinds.Pcom = true
has_log kinds.Tcom = true
has_log kinds.Xcom = false

-- the log of a component in its file, which isn't looked at where it has none
abbrev pub log_in : Kind → List ℕ → ComId → List ℕ → Result (List Record) Fault
log_in kind given c file = cond (has_log kind) (behind_load given c file (load_of given c.0 file)) (Ok [])

-- the logs of the components from number i on, or the first of them that is refused
abbrev pub logs_in : List ℕ → ℕ → List Component → List (List ℕ) → Result (List (List Record)) Fault
logs_in given i [] files = Ok []
logs_in given i (x ∷ xs) [] = Ok []
logs_in given i (x ∷ xs) (file ∷ files) = do
  log ← log_in x.kind given (record { 0 = i }) file
  logs ← logs_in given (i + 1) xs files
  Ok (log ∷ logs)

-- the lines of an audit, or the entry that has no step
abbrev pub or_illegal : Result (List ℕ) ℕ → Result (List ℕ) Fault
or_illegal (Ok lines) = Ok lines
or_illegal (Err entry) = Err (faults.Illegal entry)

-- what an audit of files comes to: its lines, or why it has none
abbrev pub audit_in : Program → List ℕ → List (List ℕ) → Result (List ℕ) Fault
audit_in program given files = do
  logs ← logs_in given 0 program.components files
  or_illegal (audit_of program logs)
