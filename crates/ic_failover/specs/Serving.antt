-- What a run with a standby is where the disks tell their bytes: rounds of its orders, what is printed of them, and what users rely on.
use Rattle.std.specs.Prelude.{◌≡◌, ℕ, ◌+◌, suc, not, false, List, [], ◌∷◌, ◌++◌, Some}
use Rattle.def_failover.specs.Orders.{Side, failover, played_over}
use Rattle.def_failover.specs.Promises.{RunsFailover, ServesFailover}
use Rattle.def_failover.specs.Telling.{summary_of}
use Rattle.def_failover.specs.declared.note.Note.{Note}
use Rattle.def_plain.specs.Plain.{PlainWorld}
use Rattle.def_report.specs.Summaries.{summary_lines}
use Rattle.def_rounds.specs.Rounds.{Round, Ran, Told, Leapt, numbers_in, numbers_of, state_after, transitions_of}
use Rattle.def_run.specs.CrashFree.{StandsCrashFree, EndsCrashFree}
use Rattle.def_run.specs.Reports.{played_in}
use Rattle.def_run.specs.SystemStates.{SystemState, Transition, last_state, traces_of}
use Rattle.def_standby.specs.Standbys.{first_standby}
use Rattle.def_standby.specs.declared.orders.Order.{Order}
use Rattle.ic_disk.specs.declared.disk.Disk as disk
use Rattle.ic_disk.specs.declared.sink.Sink as sink
use Rattle.ic_failover.specs.Carrying.{note_pieces, intervals_for, telling_for}
use Rattle.ic_failover.specs.declared.texts.FailoverTexts.{FailoverTexts}
use Rattle.ic_report.specs.Outputs.{Puts}
use Rattle.ic_run.specs.Openings.{IsOpened, files_on, TheyTell}
use Rattle.ic_run.specs.Running.{all_pieces}
use Rattle.ic_run.specs.declared.opening.Opening.TheVariants.{Anew}

-- the pieces of an order's round, from a number on
abbrev pub round_pieces : FailoverTexts → ℕ → Order → Round Side Note → List (List ℕ)
round_pieces r number o (Ran vs) = all_pieces (telling_for r) number (traces_of vs)
round_pieces r number o (Told note behind) = note_pieces r.policy.report number o note
round_pieces r number o (Leapt note behind q) = note_pieces r.policy.report number o note

abbrev pub rounds_pieces : FailoverTexts → ℕ → List Order → List (Round Side Note) → List (List ℕ)
rounds_pieces r number (o ∷ os) (d ∷ ds) = round_pieces r number o d ++ rounds_pieces r (number + numbers_in d) os ds
rounds_pieces r number _ _ = []

-- the whole report, piece by piece: the lines of all orders, those of what settles, and the summary
abbrev pub report_pieces : FailoverTexts → SystemState → List (Round Side Note) → List Transition → List (List ℕ)
report_pieces r p rs vs =
    rounds_pieces r 1 r.orders.orders rs ++ all_pieces (telling_for r) (suc (numbers_of rs)) (traces_of vs)
    ++ summary_lines r.program (summary_of r.program (not r.orders.halts) (traces_of (transitions_of rs ++ vs)) (played_over (failover r.program r.who r.fingerprint) (Some (first_standby r.program r.who)) p rs + played_in (state_after p rs) vs) (last_state (state_after p rs) vs).world) ∷ []

module _ {D : Type 0} (b : disk.Ghosts D) {K : Type 0} (k : sink.Ghosts K) (r : FailoverTexts) (disks : List D) (before after : K) (status : ℕ) where
  -- Over disks that tell their bytes a run with status 0 began over blank ones, and its orders were done in rounds. Each event, each answer
  -- and the summary were printed, in order.
  pub record IsServed : Type 0 where
    pub p : SystemState
    pub rounds : List (Round Side Note)
    pub transitions : List Transition
    pub opened : IsOpened Anew r.program r.fingerprint (files_on b r.program disks) p
    pub runs : RunsFailover r.program r.who r.fingerprint (intervals_for r) r.orders.orders r.orders.halts p rounds transitions
    pub printed : Puts k (report_pieces r p rounds transitions) before after
    -- halted or not, it stands as the crash-free world of its records has it
    pub stands : (v : PlainWorld) × StandsCrashFree r.program [] (last_state (state_after p rounds) transitions).world v
    -- unless it halts, it ends with the values, ledgers, outputs, messages and commits of the crash-free world of its merged logs
    pub ends : r.orders.halts ≡ false → (v : PlainWorld) × EndsCrashFree r.program [] (last_state (state_after p rounds) transitions).world v
    -- the standby has forced records alone and stands where they lead; a shipment brings all of them, and a takeover leads to the state of the
    -- whole log
    pub serves : ServesFailover r.program r.who r.fingerprint p rounds

  abbrev pub Serves : Type 0
  Serves = status ≡ 0 → TheyTell b r.program disks → IsServed
