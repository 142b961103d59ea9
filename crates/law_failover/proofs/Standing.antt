-- A run with a standby stands and ends as the crash-free world.
use Rattle.std.proofs.Common.{ℕ, Bool, false, List, [], Some}
use Rattle.ic_base.specs.declared.messages.ComId.{ComId}
use Rattle.ic_base.specs.declared.scenario.Program.{Program}
use Rattle.def_failover.specs.Orders.{Side}
use Rattle.def_failover.specs.Promises.{side_behind_rounds}
use Rattle.def_failover.specs.declared.note.Note.{Note}
use Rattle.def_rounds.specs.Rounds.{Round, state_after}
use Rattle.def_run.specs.Executions.{whole_agenda}
use Rattle.def_run.specs.SystemStates.{SystemState, Transition}
use Rattle.def_standby.specs.Standbys.{first_standby}
use Rattle.def_standby.specs.declared.orders.Order.{Order}
use Rattle.def_step.specs.Settle.{PolicyIntervals}
use Rattle.law_client.specs.Rounds.{Stands}
use Rattle.law_replay.proofs.Lists.{empty}
use Rattle.law_run.proofs.Complete.{executions_stand, complete_runs_end}
use Rattle.law_failover.specs.Failover.{BeginsFailover, FailoverRunsStand, FailoverRunsEnd}
use Rattle.law_failover.proofs.Rounds.{stands-beside, rounds-beside}
use Rattle.law_failover.proofs.Serving.{first-beside}

-- behind all its rounds a run stands
there : (program : Program) (c : ComId) (fingerprint : List ℕ) (x : PolicyIntervals) (orders : List Order) (halts : Bool) (p : SystemState) (rs : List (Round Side Note)) (vs : List Transition) → BeginsFailover program c fingerprint x orders halts p rs vs → Stands program fingerprint [] (state_after p rs)
there program c fingerprint x orders halts p rs vs b =
    stands-beside program fingerprint [] c (state_after p rs) (side_behind_rounds program c fingerprint rs)
    (rounds-beside program fingerprint [] c b.fit b.pcom x p (Some (first_standby program c)) orders rs b.may b.runs.rounds (first-beside program c fingerprint p b.files b.fit b.long b.started))

pub failover_runs_stand : FailoverRunsStand
failover_runs_stand program c fingerprint x orders halts p rs vs b =
    let f = there program c fingerprint x orders halts p rs vs b in
    executions_stand program fingerprint x (whole_agenda [] halts) b.runs.settles.agenda (state_after p rs) vs [] f.here b.fit.playable b.fit.flat b.fit.bytes (λ e h. empty e h) f.keeps b.runs.settles.executes f.explained

pub failover_runs_end : FailoverRunsEnd
failover_runs_end program c fingerprint x orders p rs vs b =
    let f = there program c fingerprint x orders false p rs vs b in
    complete_runs_end program fingerprint x [] (state_after p rs) vs [] f.here b.fit.playable b.fit.flat b.fit.bytes (λ e h. empty e h) f.keeps f.explained b.runs.settles
