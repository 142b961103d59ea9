-- A run over a world, whose events are numbered on from what was told before: how far it came, what was printed, what a crash leaves on its
-- way, and why it goes no further.
use Rattle.std.specs.Prelude.{◌≡◌, ℕ, ◌+◌, min, suc, false, List, [], ◌∷◌, ◌++◌, length, Option, Some, None, slice_get}
use Rattle.ic_base.specs.declared.messages.ComId.{ComId}
use Rattle.ic_base.specs.declared.events.Event.{Event}
use Rattle.ic_base.specs.declared.events.Trace.{Trace}
use Rattle.ic_base.specs.declared.events.What.{What}
use Rattle.ic_base.specs.declared.record.Record.{Record}
use Rattle.ic_base.specs.declared.refusals.WorldRefused.{WorldRefused}
use Rattle.ic_base.specs.declared.report.ReportLevel.{ReportLevel}
use Rattle.ic_base.specs.declared.scenario.Program.{Program}
use Rattle.def_report.specs.Lines.{trace_lines}
use Rattle.def_run.specs.CoreSteps.{forced_of}
use Rattle.def_run.specs.Executions.{Agenda, Executes, next, agenda_behind, received_in}
use Rattle.def_run.specs.Reports.{played_in}
use Rattle.def_run.specs.SystemStates.{SystemState, Transition, last_state, traces_of, file_of, is_com}
use Rattle.def_step.specs.Settle.{PolicyIntervals}
use Rattle.def_step.specs.World.{DiskOutcome, node_at, happens}
use Rattle.ic_disk.specs.TornDisks.{Torn}
use Rattle.ic_disk.specs.declared.disk.Disk as disk
use Rattle.ic_disk.specs.declared.sink.Sink as sink
use Rattle.ic_node.specs.Meeting.{KeepsDisk, left_disk}
use Rattle.ic_node.specs.Views.{disk_of}
use Rattle.ic_node.specs.declared.component.Component.{Component}
use Rattle.ic_report.specs.Outputs.{if_any, Puts, FailsToPut}
use Rattle.ic_gate.specs.RecordFiles.{IsBeforeOrBehind}
use Rattle.ic_run.specs.Tallies.{Counts}
use Rattle.ic_run.specs.declared.running.Cut.{Cut}
use Rattle.ic_run.specs.declared.running.Cut.TheVariants as cuts
use Rattle.ic_run.specs.declared.tally.Tally.{Tally}
use Rattle.ic_world.specs.Acting.{GREATEST}
use Rattle.ic_world.specs.Allowing.{IsMadeFor}
use Rattle.ic_world.specs.Stepping.{KeepsDisks, CrashLeavesLogs, CrashLeavesFiles, FailsToStep, adds_at, asked_by}
use Rattle.ic_world.specs.Views.{components_of, world_of, state_of, print_of, received_of, played_of, is_over, Tells}
use Rattle.ic_world.specs.declared.world.World.{World}

-- the piece in which the lines of the event of a number are put, where it has any
abbrev pub pieces_of : Program → ReportLevel → ℕ → Trace → List (List ℕ)
pieces_of program level number t = if_any (trace_lines program number t level)

-- how the event of a number is told: the pieces that are put of it
abbrev pub Telling : Type 0
Telling = ℕ → Trace → List (List ℕ)

-- the pieces of events in order, numbered from this one on
abbrev pub all_pieces : Telling → ℕ → List Trace → List (List ℕ)
all_pieces tell number [] = []
all_pieces tell number (t ∷ ts) = tell number t ++ all_pieces tell (suc number) ts

abbrev pub event_pieces : Program → ReportLevel → ℕ → List Trace → List (List ℕ)
event_pieces program level number ts = all_pieces (pieces_of program level) number ts

-- the pieces of transitions in order, numbered on behind this number
abbrev pub lines_behind : Telling → ℕ → List Transition → List (List ℕ)
lines_behind tell number vs = all_pieces tell (suc number) (traces_of vs)

-- the event behind some transitions: the first of those that come, or the one that is tried
abbrev pub coming : List Transition → Option What → Option What
coming [] tried = tried
coming (v ∷ vs) tried = Some v.trace.event.what

-- the records that a coming event would force at c
abbrev pub added_by : Program → SystemState → ComId → Option What → List Record
added_by program p c None = []
added_by program p c (Some what) = adds_at program p what c

-- What a crash may leave of the log of c on the way through these transitions, or within the event that is tried behind them: it reads as
-- the records forced at a state on the way, or as these with all that the next event would force.
pub record IsOnWay (program : Program) (p : SystemState) (vs : List Transition) (tried : Option What) (c : ComId) (image : List ℕ) : Type 0 where
  pub front : List Transition
  pub back : List Transition
  pub is : vs ≡ front ++ back
  pub reads : IsBeforeOrBehind (file_of (last_state p front) c) (forced_of (node_at (last_state p front).world c)) (added_by program (last_state p front) c (coming back tried)) image

-- no event of these transitions asks c to do something
abbrev pub AsksNone : ComId → SystemState → List Transition → Type 0
AsksNone c p [] = Unit {0}
AsksNone c p (v ∷ vs) = (is_com c (asked_by p.world v.trace.event.what) ≡ false) × AsksNone c v.state vs

-- These transitions follow one another, with this agenda behind them: each is of the event that is next, and the step of the definition
-- given something that the disks decide.
abbrev pub Follows : Program → PolicyIntervals → Agenda → SystemState → List Transition → Agenda → Type 0
Follows program x a p [] b = a ≡ b
Follows program x a p (v ∷ vs) b =
    (left : List Event) × (outcome : DiskOutcome) × (next p.world x a ≡ Some (record { event = v.trace.event; left = left })) × (happens program p.world v.trace.event outcome ≡ Some (record { world = v.state.world; trace = v.trace }))
    × Follows program x (agenda_behind a left v.trace) v.state vs b

module _ {D : Type 0} {d : disk.Ghosts D} where
  -- a crash at each moment on the way leaves such a log of each component
  abbrev pub CrashLeavesWay : Program → World D d → List Transition → Option What → World D d → Type 0
  CrashLeavesWay program old vs tried new =
      (c : ComId) (x y : Component D d) → slice_get (components_of old) c.0 ≡ Some x → slice_get (components_of new) c.0 ≡ Some y → left_disk d (disk_of x) (disk_of y) (IsOnWay program (state_of old) vs tried c)

  -- the disks are those of the same components, and kept
  pub record KeepsAll (old new : World D d) : Type 0 where
    pub print : print_of new ≡ print_of old
    pub count : length (components_of new) ≡ length (components_of old)
    pub kept : (k : ℕ) (x y : Component D d) → slice_get (components_of old) k ≡ Some x → slice_get (components_of new) k ≡ Some y → KeepsDisk x y

  -- These transitions lead from one world to another: they follow one another, with this agenda behind them, and are an execution where
  -- the disks tell their bytes. The disk of a component that no event asks stays.
  pub record Goes (program : Program) (x : PolicyIntervals) (a : Agenda) (old : World D d) (vs : List Transition) (b : Agenda) (new : World D d) : Type 0 where
    pub executes : Tells old → Executes program (print_of old) x a (state_of old) vs b
    pub follows : Follows program x a (state_of old) vs b
    pub ends : last_state (state_of old) vs ≡ state_of new
    pub disks : KeepsAll old new
    pub others : (c : ComId) → AsksNone c (state_of old) vs → (x y : Component D d) → slice_get (components_of old) c.0 ≡ Some x → slice_get (components_of new) c.0 ≡ Some y → disk_of y ≡ disk_of x
    pub crash : CrashLeavesWay program old vs None new
    pub received : received_of new ≡ received_of old + received_in program (state_of old) vs
    pub played : played_of new ≡ min (played_of old + played_in (state_of old) vs) GREATEST
    pub made : IsMadeFor program (world_of new)
    pub going : is_over new ≡ false

  -- what these say without their agenda
  pub record Leads (program : Program) (old : World D d) (vs : List Transition) (new : World D d) : Type 0 where
    pub ends : last_state (state_of old) vs ≡ state_of new
    pub disks : KeepsAll old new
    pub others : (c : ComId) → AsksNone c (state_of old) vs → (x y : Component D d) → slice_get (components_of old) c.0 ≡ Some x → slice_get (components_of new) c.0 ≡ Some y → disk_of y ≡ disk_of x
    pub crash : CrashLeavesWay program old vs None new
    pub received : received_of new ≡ received_of old + received_in program (state_of old) vs
    pub played : played_of new ≡ min (played_of old + played_in (state_of old) vs) GREATEST
    pub made : IsMadeFor program (world_of new)
    pub going : is_over new ≡ false

  -- A world between two events, on the way from an old world to a new one, with the transitions before it and those that come: it goes on,
  -- a crash leaves of each disk just what a read gives, and from there on only logs that lie on the way from this state.
  pub record IsBetween (program : Program) (old new : World D d) (us ws : List Transition) (tried : Option What) (here : World D d) : Type 0 where
    pub state : last_state (state_of old) us ≡ state_of here
    pub disks : KeepsAll old here
    pub later : KeepsAll here new
    pub made : IsMadeFor program (world_of here)
    pub going : is_over here ≡ false
    pub durable : CrashLeavesFiles here
    pub crash : CrashLeavesWay program here ws tried new

module _ {D : Type 0} {d : disk.Ghosts D} {K : Type 0} (k : sink.Ghosts K) where
  -- An event was done before any of its lines was put, and what it forces outlasts a crash from then on: the world before it, at which just
  -- these pieces had been put, and the world behind it.
  pub record Outlasts (program : Program) (pieces : List (List ℕ)) (old new : World D d) (before : K) (us : List Transition) (v : Transition) (ws : List Transition) (tried : Option What) : Type 0 where
    pub was : World D d
    pub held : World D d
    pub told : K
    pub before_it : IsBetween program old new us (v ∷ ws) tried was
    pub behind_it : IsBetween program old new (us ++ v ∷ []) ws tried held
    pub printed : Puts k pieces before told
    pub disks : KeepsDisks was v.trace.event.what held
    pub within : CrashLeavesLogs program was v.trace.event.what held

  -- so does each of these, with the lines of the events before it
  abbrev pub AllOutlast : Program → (List Transition → List (List ℕ)) → World D d → World D d → K → List Transition → Option What → Type 0
  AllOutlast program lines old new before vs tried =
      (us ws : List Transition) (v : Transition) → vs ≡ us ++ v ∷ ws → Outlasts program (lines us) old new before us v ws tried

  -- all that was to be done was done, it was counted with what was counted before, and its lines were printed
  pub record Executed (program : Program) (x : PolicyIntervals) (tell : Telling) (was : Tally) (a : Agenda) (old new : World D d) (before after : K) (tally : Tally) : Type 0 where
    pub transitions : List Transition
    pub agenda : Agenda
    pub goes : Goes program x a old transitions agenda new
    pub nothing : next (world_of new) x agenda ≡ None
    pub counts : (told : List Trace) → Counts told was → Counts (told ++ traces_of transitions) tally
    pub numbered : tally.events ≡ was.events + length transitions
    pub printed : Puts k (all_pieces tell (suc was.events) (traces_of transitions)) before after
    pub outlast : AllOutlast program (lines_behind tell was.events) old new before transitions None

module _ {K : Type 0} (k : sink.Ghosts K) where
  -- the lines of an event weren't printed: the output failed; or memory was wanting, and nothing of them was put
  abbrev pub FailsToTell : List (List ℕ) → K → K → Cut → Type 0
  FailsToTell pieces before after (cuts.Refused why) = ⊥
  FailsToTell pieces before after cuts.Print = FailsToPut k pieces before after
  FailsToTell pieces before after cuts.Memory = after ≡ before

module _ {D : Type 0} {d : disk.Ghosts D} {K : Type 0} (k : sink.Ghosts K) where
  -- The lines of an event weren't printed: it was done behind these transitions, whose lines were printed; and why
  pub record WasCutOff (program : Program) (x : PolicyIntervals) (tell : Telling) (number : ℕ) (a : Agenda) (old new : World D d) (before after : K) (cut : Cut) : Type 0 where
    pub transitions : List Transition
    pub last : Transition
    pub agenda : Agenda
    pub goes : Goes program x a old (transitions ++ last ∷ []) agenda new
    pub now : K
    pub printed : Puts k (all_pieces tell (suc number) (traces_of transitions)) before now
    pub fails : FailsToTell k (tell (suc number + length transitions) last.trace) now after cut
    pub outlast : AllOutlast k program (lines_behind tell number) old new before (transitions ++ last ∷ []) None

module _ {D : Type 0} (b : disk.Ghosts D) {d : disk.Ghosts (Torn D)} {K : Type 0} (k : sink.Ghosts K) where
  -- An event wasn't done: it was next behind these transitions, whose lines were printed; and why
  pub record WasRefused (program : Program) (x : PolicyIntervals) (lines : List Transition → List (List ℕ)) (a : Agenda) (old new : World (Torn D) d) (before after : K) (why : WorldRefused) : Type 0 where
    pub transitions : List Transition
    pub agenda : Agenda
    pub now : World (Torn D) d
    pub goes : Goes program x a old transitions agenda now
    pub event : Event
    pub left : List Event
    pub next : next (world_of now) x agenda ≡ Some (record { event = event; left = left })
    pub fails : FailsToStep b program now event new why
    pub disks : KeepsDisks now event.what new
    pub crash : CrashLeavesWay program old transitions (Some event.what) new
    pub printed : Puts k (lines transitions) before after
    pub outlast : AllOutlast k program lines old new before transitions (Some event.what)
    pub here : IsBetween program old new transitions [] (Some event.what) now
    pub within : CrashLeavesLogs program now event.what new

  -- why a run goes no further
  abbrev pub WasCut : Program → PolicyIntervals → Telling → ℕ → Agenda → World (Torn D) d → World (Torn D) d → K → K → Cut → Type 0
  WasCut program x tell number a old new before after (cuts.Refused why) = WasRefused program x (lines_behind tell number) a old new before after why
  WasCut program x tell number a old new before after cut = WasCutOff k program x tell number a old new before after cut
