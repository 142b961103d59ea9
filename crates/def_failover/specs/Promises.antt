-- What a run with a standby promises beside what each run does.
use Rattle.std.specs.Prelude.{◌≡◌, ⊤, ℕ, ◌+◌, ◌≤◌, Bool, List, [], ◌∷◌, ◌++◌, length, take, IsSomeAnd, Option, Some, None}
use Rattle.ic_base.specs.declared.messages.ComId.{ComId}
use Rattle.ic_base.specs.declared.scenario.Program.{Program}
use Rattle.def_facts.specs.Logs.{Logs, log_at}
use Rattle.def_facts.specs.Sound.{IsSound, contents_of}
use Rattle.def_facts.specs.World.{forced_logs}
use Rattle.def_plain.specs.Plain.{PlainWorld}
use Rattle.def_rounds.specs.Rounds.{Round, Leapt, Told, AreRounds, state_after, side_after}
use Rattle.def_run.specs.Executions.{IsComplete, whole_agenda}
use Rattle.def_run.specs.SystemStates.{SystemState, Transition}
use Rattle.def_standby.specs.Standbys.{Standby, first_standby}
use Rattle.def_standby.specs.declared.orders.Order.{Order}
use Rattle.def_state.specs.Hist.{after}
use Rattle.def_state.specs.Mirrors.{Mirrors}
use Rattle.def_step.specs.Settle.{PolicyIntervals}
use Rattle.def_step.specs.World.{Node, Runs, node_at}
use Rattle.def_failover.specs.Orders.{Side, failover}
use Rattle.def_failover.specs.declared.note.Note.{Note}
use Rattle.def_failover.specs.declared.note.Note.TheVariants.{Applied, Done, Bad}

-- The standby stands where the first records of its component's log lead, with the contents of the crash-free world, and these are forced.
pub record StandsWith (program : Program) (c : ComId) (forced : Logs) (v : PlainWorld) (s : Standby) : Type 0 where
  pub are_forced : s.have ≤ length (log_at forced c)
  pub leads : IsSomeAnd (after program c (contents_of v c) (take s.have (log_at forced c))) (Mirrors s.state)

abbrev pub SideStands : Program → ComId → Logs → PlainWorld → Side → Type 0
SideStands program c forced v None = ⊤
SideStands program c forced v (Some s) = StandsWith program c forced v s

-- it is up, with the state to which all its records lead
abbrev pub IsUpWith : Program → ComId → Logs → PlainWorld → Option Node → Type 0
IsUpWith program c forced v (Some (Runs x)) = (x.rest ≡ []) × IsSomeAnd (after program c (contents_of v c) (log_at forced c)) (Mirrors x.vol)
IsUpWith program c forced v _ = ⊥

-- A run with a standby of c, which has played nothing: its orders were done in these rounds, and unless it halts the world was settled
-- behind them.
pub record RunsFailover (program : Program) (c : ComId) (fingerprint : List ℕ) (x : PolicyIntervals) (orders : List Order) (halts : Bool) (p : SystemState) (rs : List (Round Side Note)) (vs : List Transition) : Type 0 where
  pub rounds : AreRounds (failover program c fingerprint) program fingerprint x (Some (first_standby program c)) p orders rs
  pub settles : IsComplete program fingerprint x (whole_agenda [] halts) (state_after p rs) vs

-- what the standby is behind some rounds
abbrev pub side_behind_rounds : Program → ComId → List ℕ → List (Round Side Note) → Side
side_behind_rounds program c fingerprint rs = side_after (failover program c fingerprint) (Some (first_standby program c)) rs

-- What it promises, behind each of its rounds; `v` is a crash-free world of the records that are then forced.
pub record ServesFailover (program : Program) (c : ComId) (fingerprint : List ℕ) (p : SystemState) (rs : List (Round Side Note)) : Type 0 where
  pub stands : (before after : List (Round Side Note)) (v : PlainWorld) → rs ≡ before ++ after → IsSound program (forced_logs (state_after p before).world) v →
      SideStands program c (forced_logs (state_after p before).world) v (side_behind_rounds program c fingerprint before)
  -- what is shipped are all records that are forced, and their number is told
  pub ships : (before after : List (Round Side Note)) (have : ℕ) (side : Side) → rs ≡ before ++ Told (Applied have) side ∷ after →
      have ≡ length (log_at (forced_logs (state_after p before).world) c)
  -- each shipment plays
  pub plays : (before after : List (Round Side Note)) (side : Side) → rs ≡ before ++ Told Bad side ∷ after → ⊥
  -- a takeover leaves the log as it is; its number is that of the records behind those that the standby had
  pub takes_over : (before after : List (Round Side Note)) (played : ℕ) (side : Side) (q : SystemState) (s : Standby) → rs ≡ before ++ Leapt (Done played) side q ∷ after → side_behind_rounds program c fingerprint before ≡ Some s →
      (log_at (forced_logs q.world) c ≡ log_at (forced_logs (state_after p before).world) c) × (played + s.have ≡ length (log_at (forced_logs q.world) c))
      × ((v : PlainWorld) → IsSound program (forced_logs q.world) v → IsUpWith program c (forced_logs q.world) v (node_at q.world c))
