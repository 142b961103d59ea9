-- What a run with clients over the disks of a call comes to: its status, what it prints, and what users rely on.
use Rattle.std.specs.Prelude.{◌≡◌, ◌⊎◌, ℕ, Bool, not, false, List, [], ◌∷◌, ◌++◌, suc, map, length, Some, None}
use Rattle.ic_base.specs.declared.events.Event.{Event}
use Rattle.ic_base.specs.declared.refusals.WorldRefused.{WorldRefused}
use Rattle.def_client.specs.Clients.{Item, clients, turn}
use Rattle.def_client.specs.Fronts.{Front}
use Rattle.def_client.specs.Promises.{EachOnce, RunsClients, ServesClients}
use Rattle.def_client.specs.declared.asked.Asked.{Asked}
use Rattle.def_facts.specs.World.{forced_logs}
use Rattle.def_plain.specs.Plain.{PlainWorld}
use Rattle.def_rounds.specs.Rounds.{Answers, Round, side_after, state_after, transitions_of}
use Rattle.def_run.specs.CrashFree.{StandsCrashFree, EndsCrashFree}
use Rattle.def_run.specs.Executions.{Agenda, Next, next}
use Rattle.def_run.specs.SystemStates.{SystemState, Transition, last_state}
use Rattle.def_step.specs.Settle.{IsSettled}
use Rattle.ic_clients.specs.Moments.{Moment, Did, item_pieces, note_pieces, moment_pieces, moments_of, moments_before, done_in, events_done}
use Rattle.ic_clients.specs.Working.{StandsAt}
use Rattle.ic_clients.specs.Worlds.{items_of}
use Rattle.ic_disk.specs.declared.disk.Disk as disk
use Rattle.ic_disk.specs.declared.sink.Sink as sink
use Rattle.ic_plan.specs.declared.run_texts.RunTexts.{RunTexts}
use Rattle.ic_report.specs.Ends.{EndsAs}
use Rattle.ic_report.specs.Outputs.{Puts}
use Rattle.ic_report.specs.declared.ending.Why.{Why}
use Rattle.ic_report.specs.declared.ending.Why.TheVariants.{Memory}
use Rattle.ic_run.specs.Openings.{IsOpened, files_on, TheyTell}
use Rattle.ic_run.specs.Runs as serial
use Rattle.ic_run.specs.Runs.{LeavesJustFiles}
use Rattle.ic_run.specs.Summaries.{summary_in, FailsToTell}
use Rattle.ic_run.specs.Whys.{why_of_world}
use Rattle.ic_run.specs.declared.opening.Opening.TheVariants.{Anew}
use Rattle.ic_settle.specs.Policies.{intervals_of}

-- the texts with other events of a schedule
abbrev pub with_events : RunTexts → List Event → Bool → RunTexts
with_events r events halts = record r { schedule = record { events = events; halts = halts } }

-- the lines of moments before the next event behind these transitions, in order
abbrev pub lines_before : RunTexts → List Moment → List Transition → List (List ℕ)
lines_before r moments vs = moment_pieces r.program r.policy.report 1 (moments_before moments vs)

module _ {D : Type 0} (b : disk.Ghosts D) (r : RunTexts) (disks : List D) where
  -- how the items of a run came to these moments, from where it began over the disks
  abbrev pub StandsOver : SystemState → List Moment → Agenda → Type 0
  StandsOver p moments left = StandsAt (TheyTell b r.program disks) r.program r.fingerprint (intervals_of r.policy) (items_of r) r.schedule.halts p moments left

  -- as texts: the events that were done, and what was begun behind them
  abbrev pub texts_of : (p : SystemState) (moments : List Moment) (left : Agenda) → StandsOver p moments left → RunTexts
  texts_of p moments left s = with_events r (events_done s.first s.rounds ++ s.begun.left) s.begun.halts

  -- the items came so far, and no request stands twice in a log
  pub record ItemsCame (p : SystemState) (moments : List Moment) : Type 0 where
    pub left : Agenda
    pub stands : StandsOver p moments left
    pub once : TheyTell b r.program disks → EachOnce r.program (forced_logs (last_state p (done_in moments)).world)

  -- what was done of them is one run of the events that were done
  abbrev pub texts_done : (p : SystemState) (moments : List Moment) → ItemsCame p moments → RunTexts
  texts_done p moments items = texts_of p moments items.left items.stands

module _ {D : Type 0} (b : disk.Ghosts D) {K : Type 0} (k : sink.Ghosts K) (r : RunTexts) (disks now : List D) (before after : K) where
  -- A run began over blank disks and came through these moments, as a run of the events that were done comes through them. The disks hold
  -- what its last state has.
  pub record CameTo (p : SystemState) (moments : List Moment) : Type 0 where
    pub items : ItemsCame b r disks p moments
    pub agenda : Agenda
    pub came : serial.CameTo b k (texts_done b r disks p moments items) Anew disks now before after (lines_before r moments) p (done_in moments) agenda None
    pub files : TheyTell b r.program disks → (last_state p (done_in moments)).files ≡ files_on b r.program now
    pub durable : LeavesJustFiles b r.program now

  -- none of the items is left, and nothing is to be done behind them
  pub record IsWorkedOff (p : SystemState) (moments : List Moment) (came : CameTo p moments) : Type 0 where
    pub all : came.items.stands.rest ≡ []
    pub nothing : next (last_state p (done_in moments)).world (intervals_of r.policy) came.items.left ≡ None

  -- all was done, and the whole report was printed
  pub record IsDone : Type 0 where
    pub p : SystemState
    pub moments : List Moment
    pub came : CameTo p moments
    pub worked_off : IsWorkedOff p moments came
    pub printed : Puts k (moment_pieces r.program r.policy.report 1 moments ++ summary_in r.program (not r.schedule.halts) p (done_in moments) ∷ []) before after
    -- without a halt it is settled: none is down or replays, nothing waits, is due, buffered or in hand, and each message is taken
    pub settled : TheyTell b r.program disks → r.schedule.halts ≡ false → IsSettled (last_state p (done_in moments)).world

  -- the lines of the last event weren't printed; those before were
  pub record LinesUntold (moments : List Moment) (told mid : K) (why : Why) : Type 0 where
    pub front : List Moment
    pub last : Transition
    pub is : moments ≡ front ++ Did last ∷ []
    pub printed : Puts k (moment_pieces r.program r.policy.report 1 front) before told
    pub fails : FailsToTell k (item_pieces r.program r.policy.report (suc (length front)) last.trace) told mid why

  -- An item was answered with no step behind what was done, and its line wasn't printed; or there was no room for a new request.
  pub record NoteUntold (p : SystemState) (moments : List Moment) (came : CameTo p moments) (told mid : K) (why : Why) : Type 0 where
    pub item : Item
    pub later : List Item
    pub is : came.items.stands.rest ≡ item ∷ later
    pub none : came.items.stands.transitions ≡ []
    pub printed : Puts k (moment_pieces r.program r.policy.report 1 moments) before told
    pub untold : ((answer : Asked) × (front : Front) × (turn (last_state p (done_in moments)).world (side_after clients [] came.items.stands.rounds) item ≡ Answers answer front) × FailsToTell k (note_pieces r.program r.policy.report (suc (length moments)) item answer) told mid why) ⊎ ((why ≡ Memory) × (mid ≡ told))

  -- all was done, and its lines were printed, but not the summary
  pub record SummaryUntold (p : SystemState) (moments : List Moment) (came : CameTo p moments) (told mid : K) (why : Why) : Type 0 where
    pub worked_off : IsWorkedOff p moments came
    pub printed : Puts k (moment_pieces r.program r.policy.report 1 moments) before told
    pub fails : FailsToTell k (summary_in r.program (not r.schedule.halts) p (done_in moments) ∷ []) told mid why

  -- what was done wasn't all told
  pub record IsUntold (mid : K) (why : Why) : Type 0 where
    pub p : SystemState
    pub moments : List Moment
    pub came : CameTo p moments
    pub told : K
    pub untold : LinesUntold moments told mid why ⊎ (NoteUntold p moments came told mid why ⊎ SummaryUntold p moments came told mid why)

module _ {D : Type 0} (b : disk.Ghosts D) {K : Type 0} (k : sink.Ghosts K) (tool : List ℕ) (r : RunTexts) (disks now : List D) (before after : K) (status : ℕ) where
  -- an event is refused, as in a run of the events that were done
  pub record EndsRefused : Type 0 where
    pub why : WorldRefused
    pub mid : K
    pub p : SystemState
    pub moments : List Moment
    pub items : ItemsCame b r disks p moments
    pub agenda : Agenda
    pub tried : Next
    pub next : next (last_state p (done_in moments)).world (intervals_of r.policy) items.left ≡ Some tried
    pub refused : serial.IsRefusedAt b k (texts_done b r disks p moments items) Anew disks now before after (lines_before r moments) p (done_in moments) agenda tried mid why
    pub ends : EndsAs k tool (Some r.program) (why_of_world r.fingerprint why) mid after status

  -- the output failed, or memory is wanting for what is printed or for a new request
  pub record EndsUntold : Type 0 where
    pub why : Why
    pub mid : K
    pub untold : IsUntold b k r disks now before after mid why
    pub ends : EndsAs k tool (Some r.program) why mid after status

  -- a run with clients, by its status
  abbrev pub Runs : Type 0
  Runs = ((status ≡ 0) × IsDone b k r disks now before after) ⊎ (serial.EndsUnopened b k r Anew disks now before after tool status ⊎ (EndsRefused ⊎ EndsUntold))

  -- Over disks that tell their bytes a run with status 0 began over blank ones, and its items were worked off in rounds: each request is
  -- answered by what was taken and shown before it, and only a new one is an event of the world. Each event, each answer and the summary were
  -- printed, in order.
  pub record IsServed : Type 0 where
    pub p : SystemState
    pub rounds : List (Round Front Asked)
    pub transitions : List Transition
    pub opened : IsOpened Anew r.program r.fingerprint (files_on b r.program disks) p
    pub runs : RunsClients r.program r.fingerprint (intervals_of r.policy) (items_of r) r.schedule.halts p rounds transitions
    pub printed : Puts k (moment_pieces r.program r.policy.report 1 (moments_of (items_of r) rounds ++ map Did transitions) ++ summary_in r.program (not r.schedule.halts) p (transitions_of rounds ++ transitions) ∷ []) before after
    -- halted or not, it stands as the crash-free world of its records has it, and no request stands twice in a log
    pub stands : (v : PlainWorld) × StandsCrashFree r.program [] (last_state (state_after p rounds) transitions).world v
    pub once : EachOnce r.program (forced_logs (last_state (state_after p rounds) transitions).world)
    -- unless it halts, it ends with the values, ledgers, outputs, messages and commits of the crash-free world of its merged logs, in which no
    -- request stands twice; and what was answered again was the first output shown to its request, and is one of that world
    pub ends : r.schedule.halts ≡ false → (v : PlainWorld) × EndsCrashFree r.program [] (last_state (state_after p rounds) transitions).world v
        × ServesClients r.program (items_of r) p rounds (last_state (state_after p rounds) transitions).world v

  abbrev pub Serves : Type 0
  Serves = status ≡ 0 → TheyTell b r.program disks → IsServed
