-- What a run over disks comes to: its status, what it prints, and what the disks then hold.
use Rattle.std.specs.Prelude.{◌≡◌, ◌⊎◌, ◌≤◌, ⊤, ℕ, true, false, not, List, [], ◌∷◌, ◌++◌, suc, codes, length, Option, Some, None, is_some, slice_get}
use Rattle.ic_base.specs.declared.limits.TheConstants.{RECEIPTS, PACKETS}
use Rattle.ic_base.specs.declared.messages.ComId.{ComId}
use Rattle.ic_base.specs.declared.events.What.{What}
use Rattle.ic_base.specs.declared.refusals.StartWhy.{StartWhy}
use Rattle.ic_base.specs.declared.refusals.StartWhy.TheVariants as starts
use Rattle.ic_base.specs.declared.refusals.Which.{Which}
use Rattle.ic_base.specs.declared.refusals.Which.TheVariants.{Receipts}
use Rattle.ic_base.specs.declared.refusals.WorldRefused.{WorldRefused}
use Rattle.ic_base.specs.declared.refusals.WorldRefused.TheVariants as refused
use Rattle.ic_base.specs.declared.scenario.Program.{Program}
use Rattle.def_facts.specs.Explained.{IsExplainedWorld}
use Rattle.def_facts.specs.World.{forced_logs}
use Rattle.def_log.specs.Images.{LeavesJust}
use Rattle.def_log.specs.Laws.{IsBytes}
use Rattle.def_plain.specs.Plain.{PlainWorld}
use Rattle.def_run.specs.CoreSteps.{is_full_at}
use Rattle.def_run.specs.CrashFree.{GainsInputs, StandsCrashFree, EndsCrashFree}
use Rattle.def_run.specs.Executions.{Agenda, Next, Executes, next, received_in}
use Rattle.def_run.specs.Openings.{IsFound, IsStartRefused, BeginsSound}
use Rattle.def_run.specs.Refusals.{IsRefused}
use Rattle.def_run.specs.SystemStates.{SystemState, Transition, KeepsLogs, file_in, last_state, has_disk}
use Rattle.def_step.specs.Settle.{IsSettled}
use Rattle.ic_disk.specs.Causes.{Rose}
use Rattle.ic_disk.specs.Disk.{Keeps, CrashLeaves}
use Rattle.ic_disk.specs.declared.disk.Disk as disk
use Rattle.ic_disk.specs.declared.sink.Sink as sink
use Rattle.ic_run.specs.Running.{pieces_of, Follows, IsOnWay}
use Rattle.ic_report.specs.Ends.{EndsAs, EndsWith}
use Rattle.ic_report.specs.Outputs.{Puts}
use Rattle.ic_report.specs.declared.ending.Why.{Why}
use Rattle.ic_settle.specs.Policies.{intervals_of}
use Rattle.ic_plan.specs.declared.run_texts.RunTexts.{RunTexts}
use Rattle.ic_world.specs.Explaining.{may_be_left}
use Rattle.ic_world.specs.Opening.{Stays}
use Rattle.ic_world.specs.Stepping.{IsPastCount}
use Rattle.ic_run.specs.Causes.{ShowAgainBehindCrashes, AbortWithCause, MeetsSoundLogs}
use Rattle.ic_run.specs.Contents.{HaveOneContent, LedgersAreOfDecisions}
use Rattle.ic_run.specs.Crashes.{AreLeftAt, AreOnWay}
use Rattle.ic_run.specs.Openings.{IsOpened, BeginsAs, OpensSound, opening_refusal, files_on, TheyTell}
use Rattle.ic_run.specs.Summaries.{summary_in, report_pieces, FailsToTell}
use Rattle.ic_run.specs.Whys.{why_of_start, why_of_world}
use Rattle.ic_run.specs.Worlds.{lines_of, agenda_of}
use Rattle.ic_run.specs.declared.opening.Opening.{Opening}
use Rattle.ic_run.specs.declared.opening.Opening.TheVariants.{Anew, Found}

module _ {D : Type 0} (b : disk.Ghosts D) where
  -- The disks are handed back in their places: those of components are kept, and all others are as they were.
  pub record HandsBack (program : Program) (disks now : List D) : Type 0 where
    pub count : length now ≡ length disks
    pub kept : (c : ComId) (old new : D) → slice_get disks c.0 ≡ Some old → slice_get now c.0 ≡ Some new → Keeps b old new
    pub others : (c : ComId) → has_disk program c ≡ false → slice_get now c.0 ≡ slice_get disks c.0

  -- the disk of this component failed, or stands stopped
  abbrev pub HasFailed : List D → List D → ComId → Type 0
  HasFailed disks now c = (old : D) × (new : D) × (slice_get disks c.0 ≡ Some old) × (slice_get now c.0 ≡ Some new) × (Rose (b.faults old) (b.faults new) ⊎ b.stopped new)

  abbrev pub IsStartFault : List D → List D → StartWhy → Type 0
  IsStartFault disks now (starts.Failed c) = HasFailed disks now c
  IsStartFault disks now why = ⊤

  abbrev pub IsFault : List D → List D → WorldRefused → Type 0
  IsFault disks now (refused.Failed c) = HasFailed disks now c
  IsFault disks now why = ⊤

  -- a crash leaves of the disk of each component just what a read gives
  abbrev pub LeavesJustFiles : Program → List D → Type 0
  LeavesJustFiles program disks = (c : ComId) (x : D) → has_disk program c ≡ true → slice_get disks c.0 ≡ Some x → b.keeps x → LeavesJust (b.may_leave x) (b.seen x)

  -- images, one of the disk of each component, that a crash of the whole machine may leave from one moment to another
  abbrev pub AreLeftFrom : Program → List D → List D → List (List ℕ) → Type 0
  AreLeftFrom program old new images = (c : ComId) → has_disk program c ≡ true → may_be_left b (slice_get old c.0) (slice_get new c.0) (file_in images c)

  -- The disks of a call between two events of its run, with the transitions before and those that come: they are kept and hold what the
  -- state there has. A crash there leaves just that, and from there on of each disk only a log that lies on the way from this state.
  pub record AreBetween (program : Program) (disks now : List D) (p : SystemState) (us ws : List Transition) (tried : Option What) (here : List D) : Type 0 where
    pub kept : HandsBack program disks here
    pub files : TheyTell b program disks → (last_state p us).files ≡ files_on b program here
    pub durable : LeavesJustFiles program here
    pub crash : (c : ComId) (x y : D) → has_disk program c ≡ true → slice_get here c.0 ≡ Some x → slice_get now c.0 ≡ Some y → CrashLeaves b x y (IsOnWay program (last_state p us) ws tried c)

  module _ {K : Type 0} (k : sink.Ghosts K) (r : RunTexts) (opening : Opening) (disks now : List D) (before after : K) where
    -- An event was done before any of its lines was put, and what it forces outlasts a crash from then on: the disks before it, at which just
    -- these pieces had been put, and the disks behind it. A crash of the whole machine within it leaves of all disks together the records that
    -- are forced, or these with all that the event forces.
    pub record Outlasts (pieces : List (List ℕ)) (p : SystemState) (us : List Transition) (v : Transition) (ws : List Transition) (tried : Option What) : Type 0 where
      pub was : List D
      pub held : List D
      pub told : K
      pub before_it : AreBetween r.program disks now p us (v ∷ ws) tried was
      pub behind_it : AreBetween r.program disks now p (us ++ v ∷ []) ws tried held
      pub printed : Puts k pieces before told
      pub within : TheyTell b r.program disks → (images : List (List ℕ)) → AreLeftFrom r.program was held images → AreLeftAt r.program (last_state p us) (Some v.trace.event.what) images

    -- A run opened over the disks and came through these transitions, one after another, where the disks tell their bytes. Each of them
    -- outlasts a crash with what it forces before it is told, with the lines of those before it, and a crash behind the opening leaves of each
    -- disk a log that lies on the way.
    pub record CameTo (lines : List Transition → List (List ℕ)) (p : SystemState) (vs : List Transition) (agenda : Agenda) (tried : Option What) : Type 0 where
      pub opened : TheyTell b r.program disks → IsOpened opening r.program r.fingerprint (files_on b r.program disks) p
      -- whatever the disks tell, the world is one of the opening, and the transitions are steps of the definition, of the events that are next
      pub world : BeginsAs opening r.program p.world
      pub follows : Follows r.program (intervals_of r.policy) (agenda_of r) p vs agenda
      pub executes : TheyTell b r.program disks → Executes r.program r.fingerprint (intervals_of r.policy) (agenda_of r) p vs agenda
      -- the disks as the opening left them
      pub first : List D
      pub begins : AreBetween r.program disks now p [] vs tried first
      pub outlast : (us ws : List Transition) (v : Transition) → vs ≡ us ++ v ∷ ws → Outlasts (lines us) p us v ws tried
      -- no more was received, and no more packets were put out, than may be
      pub received : received_in r.program p vs ≤ RECEIPTS
      pub numbered : length (last_state p vs).world.packets ≤ PACKETS
      -- each file is the log of its component, with the records that are forced
      pub logs : TheyTell b r.program disks → KeepsLogs r.fingerprint (last_state p vs)
      -- a run that is begun anew begins soundly
      pub anew : opening ≡ Anew → TheyTell b r.program disks → OpensSound b r.program r.fingerprint disks p
      -- each gained the inputs that were taken or kept, each once and in order, and no other
      pub gains : OpensSound b r.program r.fingerprint disks p → GainsInputs r.program (forced_logs p.world) vs (last_state p vs).world
      -- each cut of the last world is sound, and each packet, mark and showing is true in each cut
      pub explained : OpensSound b r.program r.fingerprint disks p → IsExplainedWorld r.program (last_state p vs).world
      -- each message that was put out has one content, and each ledger is made by the decisions of its log, none of which is made twice
      pub contents : OpensSound b r.program r.fingerprint disks p → HaveOneContent (last_state p vs).world.packets
      pub ledgers : OpensSound b r.program r.fingerprint disks p → LedgersAreOfDecisions r.program (last_state p vs).world
      -- no output is shown again but behind a crash, and each abort has its cause
      pub again : OpensSound b r.program r.fingerprint disks p → ShowAgainBehindCrashes p vs
      pub aborts : OpensSound b r.program r.fingerprint disks p → AbortWithCause r.program p vs
      -- all stands as the crash-free world of its records has it, with whatever crashes and stops
      pub stands : OpensSound b r.program r.fingerprint disks p → (v : PlainWorld) × StandsCrashFree r.program (forced_logs p.world) (last_state p vs).world v
      -- a run that takes up what a crash of the whole machine leaves on the way, or the run at its end, begins soundly
      pub taken_up : OpensSound b r.program r.fingerprint disks p → (images : List (List ℕ)) (q : SystemState) → AreOnWay r.program p vs tried images → IsFound r.program r.fingerprint images q → ((c : ComId) → IsBytes (file_in images c)) → BeginsSound r.program r.fingerprint images q

    -- those of the last of these transitions
    pub record LinesUntold (vs : List Transition) (told mid : K) (why : Why) : Type 0 where
      pub front : List Transition
      pub last : Transition
      pub is : vs ≡ front ++ last ∷ []
      pub printed : Puts k (lines_of r front) before told
      pub fails : FailsToTell k (pieces_of r.program r.policy.report (suc (length front)) last.trace) told mid why

    -- the summary, with nothing left to do
    pub record SummaryUntold (p : SystemState) (vs : List Transition) (agenda : Agenda) (told mid : K) (why : Why) : Type 0 where
      pub nothing : next (last_state p vs).world (intervals_of r.policy) agenda ≡ None
      pub printed : Puts k (lines_of r vs) before told
      pub fails : FailsToTell k (summary_in r.program (not r.schedule.halts) p vs ∷ []) told mid why

    -- All was done that was to be done, the whole report was printed, and the disks hold what the last state has.
    pub record IsDone : Type 0 where
      pub p : SystemState
      pub transitions : List Transition
      pub agenda : Agenda
      pub came : CameTo (lines_of r) p transitions agenda None
      pub nothing : next (last_state p transitions).world (intervals_of r.policy) agenda ≡ None
      pub files : TheyTell b r.program disks → (last_state p transitions).files ≡ files_on b r.program now
      pub durable : LeavesJustFiles r.program now
      pub printed : Puts k (report_pieces r.program r.policy.report (not r.schedule.halts) p transitions) before after
      -- without a halt it is settled: none is down or replays, nothing waits, is due, buffered or in hand, and each message is taken
      pub settled : OpensSound b r.program r.fingerprint disks p → r.schedule.halts ≡ false → IsSettled (last_state p transitions).world
      -- and it ends with the values, ledgers, outputs, messages and commits of the crash-free world of its merged logs
      pub ends : OpensSound b r.program r.fingerprint disks p → r.schedule.halts ≡ false → (v : PlainWorld) × EndsCrashFree r.program (forced_logs p.world) (last_state p transitions).world v

    -- an event wasn't done, which was next behind these transitions, whose lines were printed; and why
    pub record IsRefusedAt (lines : List Transition → List (List ℕ)) (p : SystemState) (transitions : List Transition) (agenda : Agenda) (tried : Next) (mid : K) (why : WorldRefused) : Type 0 where
      pub came : CameTo lines p transitions agenda (Some tried.event.what)
      pub next : next (last_state p transitions).world (intervals_of r.policy) agenda ≡ Some tried
      pub cause : TheyTell b r.program disks → IsRefused r.program r.fingerprint (last_state p transitions) (received_in r.program p transitions) tried.event why
      pub sound : OpensSound b r.program r.fingerprint disks p → MeetsSoundLogs r.program (last_state p transitions) tried.event.what why
      -- of the counts, whatever the disks tell
      pub count : (which : Which) → why ≡ refused.Limit which → IsPastCount r.program (last_state p transitions).world (received_in r.program p transitions) tried.event which
      pub fault : IsFault disks now why
      pub printed : Puts k (lines transitions) before mid
      -- the disks before it; a crash of the whole machine since then leaves of all disks together as of an event that is done, if it passes
      -- no limit
      pub was : List D
      pub before_it : AreBetween r.program disks now p transitions [] (Some tried.event.what) was
      pub stay : why ≡ refused.Limit Receipts → now ≡ was
      pub within : TheyTell b r.program disks → is_full_at r.program (last_state p transitions) tried.event.what ≡ false → (images : List (List ℕ)) → AreLeftFrom r.program was now images → AreLeftAt r.program (last_state p transitions) (Some tried.event.what) images
      -- and so do the disks that are handed back, where they keep the disk model, whatever the refusal
      pub on_way : TheyTell b r.program disks → ((c : ComId) (x : D) → has_disk r.program c ≡ true → slice_get now c.0 ≡ Some x → b.keeps x) → AreOnWay r.program p transitions (Some tried.event.what) (files_on b r.program now)

    -- The transitions were done, and not all was told: the lines of the last one, or with nothing left to do the summary; those before
    -- were printed.
    pub record IsUntold (mid : K) (why : Why) : Type 0 where
      pub p : SystemState
      pub transitions : List Transition
      pub agenda : Agenda
      pub came : CameTo (lines_of r) p transitions agenda None
      pub files : TheyTell b r.program disks → (last_state p transitions).files ≡ files_on b r.program now
      pub durable : LeavesJustFiles r.program now
      pub told : K
      pub untold : LinesUntold transitions told mid why ⊎ SummaryUntold p transitions agenda told mid why

    -- no run opens, and this program tells it
    pub record EndsUnopened (tool : List ℕ) (status : ℕ) : Type 0 where
      pub why : StartWhy
      pub cause : TheyTell b r.program disks → IsStartRefused (opening_refusal opening r.program r.fingerprint (files_on b r.program disks)) why
      pub fault : IsStartFault disks now why
      -- begun anew over a disk that isn't blank, they were only asked
      pub stay : opening ≡ Anew → TheyTell b r.program disks → is_some (opening_refusal opening r.program r.fingerprint (files_on b r.program disks)) ≡ true → (c : ComId) (old new : D) → slice_get disks c.0 ≡ Some old → slice_get now c.0 ≡ Some new → Stays b why old new
      -- taken up, they are only read: no byte changes of a disk that keeps the disk model and on which no write waits
      pub same : opening ≡ Found → (c : ComId) (old new : D) → slice_get disks c.0 ≡ Some old → slice_get now c.0 ≡ Some new → b.keeps old → LeavesJust (b.may_leave old) (b.seen old) → b.seen new ≡ b.seen old
      pub ends : EndsAs k tool (Some r.program) (why_of_start r.fingerprint why) before after status

    -- an event is refused
    pub record EndsRefused (status : ℕ) : Type 0 where
      pub why : WorldRefused
      pub mid : K
      pub p : SystemState
      pub transitions : List Transition
      pub agenda : Agenda
      pub tried : Next
      pub refused : IsRefusedAt (lines_of r) p transitions agenda tried mid why
      pub ends : EndsWith k (Some r.program) (why_of_world r.fingerprint why) mid after status

    -- the output failed, or memory is wanting for what is printed
    pub record EndsUntold (status : ℕ) : Type 0 where
      pub why : Why
      pub mid : K
      pub untold : IsUntold mid why
      pub ends : EndsWith k (Some r.program) why mid after status

    -- a run of texts over disks, by its status
    abbrev pub Runs : ℕ → Type 0
    Runs status = ((status ≡ 0) × IsDone) ⊎ (EndsUnopened (codes "icrun") status ⊎ (EndsRefused status ⊎ EndsUntold status))
