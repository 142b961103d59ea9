-- Runs with a standby stand and end as the crash-free world.
use Rattle.std.specs.Prelude.{◌≡◌, ⊤, ℕ, true, false, Bool, List, [], length, Contains}
use Rattle.ic_base.specs.declared.messages.ComId.{ComId}
use Rattle.ic_base.specs.declared.scenario.Program.{Program}
use Rattle.ic_base.specs.Programs.{is_a_pcom}
use Rattle.def_failover.specs.Orders.{Side}
use Rattle.def_failover.specs.Promises.{RunsFailover, ServesFailover}
use Rattle.def_failover.specs.declared.note.Note.{Note}
use Rattle.def_plain.specs.Plain.{PlainWorld}
use Rattle.def_rounds.specs.Rounds.{Round, state_after}
use Rattle.def_run.specs.CrashFree.{StandsCrashFree, EndsCrashFree}
use Rattle.def_run.specs.Openings.{IsStarted}
use Rattle.def_run.specs.SystemStates.{SystemState, Transition, last_state}
use Rattle.def_standby.specs.declared.orders.Order.{Order}
use Rattle.def_standby.specs.declared.orders.Order.TheVariants.{Ship, TakeOver, Run}
use Rattle.def_step.specs.Settle.{PolicyIntervals}
use Rattle.law_run.specs.ProgramBytes.{IsFit}
use Rattle.law_syntax.specs.Events.{IsEvent}

-- the event of an order, if it is one, may come
abbrev pub OrderMayCome : Program → Order → Type 0
OrderMayCome program (Run e) = IsEvent program e
OrderMayCome program o = ⊤

-- a run with a standby of a Pcom that begins anew over blank disks
pub record BeginsFailover (program : Program) (c : ComId) (fingerprint : List ℕ) (x : PolicyIntervals) (orders : List Order) (halts : Bool) (p : SystemState) (rs : List (Round Side Note)) (vs : List Transition) : Type 0 where
  pub fit : IsFit program
  pub pcom : is_a_pcom program c ≡ true
  pub may : (o : Order) → Contains orders o → OrderMayCome program o
  pub long : length fingerprint ≡ 32
  pub files : List (List ℕ)
  pub started : IsStarted program fingerprint files p
  pub runs : RunsFailover program c fingerprint x orders halts p rs vs

-- it stands as the crash-free world of its records has it where it ends, halted or not
abbrev pub FailoverRunsStand : Type 0
FailoverRunsStand = (program : Program) (c : ComId) (fingerprint : List ℕ) (x : PolicyIntervals) (orders : List Order) (halts : Bool) (p : SystemState) (rs : List (Round Side Note)) (vs : List Transition) →
    BeginsFailover program c fingerprint x orders halts p rs vs → (v : PlainWorld) × StandsCrashFree program [] (last_state (state_after p rs) vs).world v

-- with no halt it ends with the values, ledgers, outputs, messages and commits of the crash-free world of its merged logs
abbrev pub FailoverRunsEnd : Type 0
FailoverRunsEnd = (program : Program) (c : ComId) (fingerprint : List ℕ) (x : PolicyIntervals) (orders : List Order) (p : SystemState) (rs : List (Round Side Note)) (vs : List Transition) →
    BeginsFailover program c fingerprint x orders false p rs vs → (v : PlainWorld) × EndsCrashFree program [] (last_state (state_after p rs) vs).world v

-- and its standby keeps what it promises
abbrev pub FailoverRunsServe : Type 0
FailoverRunsServe = (program : Program) (c : ComId) (fingerprint : List ℕ) (x : PolicyIntervals) (orders : List Order) (halts : Bool) (p : SystemState) (rs : List (Round Side Note)) (vs : List Transition) →
    BeginsFailover program c fingerprint x orders halts p rs vs → ServesFailover program c fingerprint p rs
