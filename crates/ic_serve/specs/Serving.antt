-- Lines that are served over a world, one after another.
use Rattle.std.specs.Prelude.{◌≡◌, ◌⊎◌, ℕ, ℤ, suc, false, List, [], ◌∷◌, map, Option, Some, None}
use Rattle.def_client.specs.Clients.{item_of, note_lines}
use Rattle.def_client.specs.Fronts.{Request, Front, ask}
use Rattle.def_facts.specs.World.{forced_logs, whole_logs}
use Rattle.def_rounds.specs.Rounds.{Round, IsRound, state_behind, side_behind}
use Rattle.def_serve.specs.Promises.{ServesStretch}
use Rattle.ic_client.specs.Seeing.{TakenAlike}
use Rattle.def_client.specs.declared.asked.Asked.{Asked}
use Rattle.def_client.specs.declared.asked.Asked.TheVariants.{New, Again}
use Rattle.def_report.specs.Summaries.{stand_lines}
use Rattle.def_run.specs.Executions.{Agenda, whole_agenda}
use Rattle.def_run.specs.Reports.{stand_of}
use Rattle.def_run.specs.SystemStates.{without_stop}
use Rattle.def_serve.specs.Lines.{Line, Asks, Gives, Checkpoints, Values, Refused, Note, input_for, serving}
use Rattle.def_run.specs.CrashFree.{EndsCrashFree}
use Rattle.def_facts.specs.Logs.{Logs}
use Rattle.def_plain.specs.Plain.{PlainWorld}
use Rattle.law_client.specs.Rounds.{Stands}
use Rattle.law_run.specs.ProgramBytes.{IsFit}
use Rattle.law_serve.specs.Replies.{KnowsLogs, IsFirstOutput}
use Rattle.def_step.specs.Settle.{PolicyIntervals, next_event}
use Rattle.ic_base.specs.declared.events.Event.{Event}
use Rattle.ic_base.specs.declared.events.What.TheVariants as whats
use Rattle.ic_base.specs.declared.report.ReportLevel.{ReportLevel}
use Rattle.ic_base.specs.declared.report.ReportLevel.TheVariants.{Full}
use Rattle.ic_base.specs.declared.scenario.Program.{Program}
use Rattle.ic_disk.specs.TornDisks.{Torn}
use Rattle.ic_disk.specs.declared.disk.Disk as disk
use Rattle.ic_disk.specs.declared.sink.Sink as sink
use Rattle.ic_lines.specs.declared.lines.Lines as source
use Rattle.ic_lines.specs.declared.lines.Read.{Read}
use Rattle.ic_report.specs.declared.ending.Why.{Why}
use Rattle.ic_run.specs.Agendas.{MayCome}
use Rattle.ic_run.specs.Running.{KeepsAll}
use Rattle.ic_run.specs.Whys.{why_of_cut}
use Rattle.ic_run.specs.declared.running.Cut.{Cut}
use Rattle.ic_run.specs.declared.running.Cut.TheVariants as cuts
use Rattle.ic_world.specs.Allowing.{GoesOn}
use Rattle.ic_world.specs.Views.{world_of, state_of, print_of, Tells}
use Rattle.ic_world.specs.declared.world.World.{World}
use Rattle.ic_serve.specs.Answering.{bad_line, AnswersOver, FailsToAnswer}
use Rattle.ic_serve.specs.Gathering.{Gathered, FailsToGather}
use Rattle.ic_serve.specs.Reading.{ReadsNext, line_read}
use Rattle.ic_serve.specs.Services.{Adds}
use Rattle.ic_serve.specs.declared.service.Service.{Service}
use Rattle.ic_serve.specs.declared.telling.Form.{Form}
use Rattle.ic_serve.specs.declared.telling.Form.TheVariants.{Own, Request as AsRequest}

-- an event alone, with all that the policy asks for and what settles the world
abbrev pub agenda_for : Event → Agenda
agenda_for e = whole_agenda (e ∷ []) false

-- the event that a line may come to, and the form in which it is told
abbrev pub event_of : Line → Option (Event × Form)
event_of (Asks r) = Some (input_for r, AsRequest)
event_of (Gives r) = Some (input_for r, Own)
event_of (Checkpoints c) = Some (without_stop (whats.Checkpoint c), Own)
event_of Values = None
event_of (Refused number cause) = None

-- a source of lines, what is kept beside a world, the world, and the output, at one moment
pub record Moment {D : Type 0} (d : disk.Ghosts D) (I K : Type 0) : Type 0 where
  pub source : I
  pub service : Service
  pub world : World D d
  pub out : K

-- Over disks that tell their bytes a world stands as the crash-free world of its logs has it: it is explained, its disks hold its logs, and it
-- ends with the values, ledgers, outputs, messages and commits of the crash-free world.
pub record StandsSettled (program : Program) (found : Logs) {D : Type 0} {d : disk.Ghosts D} (w : World D d) : Type 0 where
  pub stands : Stands program (print_of w) found (state_of w)
  pub ends : (v : PlainWorld) × EndsCrashFree program found (world_of w) v

-- A world goes on, with nothing left to do, over the disks of one before, which are kept. Where that one was explained by what its logs had
-- before, so is this one, and it ends as the crash-free world.
pub record IsSettledFrom (program : Program) {D : Type 0} {d : disk.Ghosts D} (old new : World D d) : Type 0 where
  pub goes_on : GoesOn program new
  pub settled : next_event (world_of new) ≡ None
  pub disks : KeepsAll old new
  pub crash_free : (found : Logs) → IsFit program → Tells old → Stands program (print_of old) found (state_of old) → StandsSettled program found new

-- Where a front knows the logs of a world, of which all records are forced, one that is alike to what is kept knows those of another: it has just
-- their requests, and the reply of each is its first output in their crash-free world.
abbrev pub KeepsRequests : Program → {D : Type 0} {d : disk.Ghosts D} → Front → Front → World D d → World D d → Type 0
KeepsRequests program was now old new =
    (found : Logs) (front : Front) → IsFit program → Tells old → Stands program (print_of old) found (state_of old) → forced_logs (world_of old) ≡ whole_logs (world_of old) → TakenAlike was front → KnowsLogs program front (forced_logs (world_of old)) → (other : Front) × TakenAlike now other × KnowsLogs program other (forced_logs (world_of new))

module _ {D : Type 0} {d : disk.Ghosts D} (program : Program) (x : PolicyIntervals) (level : ReportLevel) where
  -- a request that isn't new was answered with no step
  pub record IsAnswered (r : Request) (was now : Service) (old new : World D d) : Type 0 where
    pub answer : Asked
    pub asked : answer ≡ ask was.front.taken r
    pub other : answer ≡ New → ⊥
    pub told : Adds (note_lines program Full (suc was.tally.events) (item_of (input_for r)) answer) was now
    pub stays : new ≡ old

  -- What became of a line: a new request, an input and a checkpoint were done with all that the policy asks for, and the world was settled
  -- behind them; any other is answered with no step.
  abbrev pub IsDone : Line → Service → Service → World D d → World D d → Type 0
  IsDone (Asks r) was now old new = ((ask was.front.taken r ≡ New) × Gathered program x level AsRequest (agenda_for (input_for r)) was now old new) ⊎ IsAnswered r was now old new
  IsDone (Gives r) was now old new = Gathered program x level Own (agenda_for (input_for r)) was now old new
  IsDone (Checkpoints c) was now old new = Gathered program x level Own (agenda_for (without_stop (whats.Checkpoint c))) was now old new
  IsDone Values was now old new = Adds (stand_lines program.components (map stand_of (world_of old).nodes)) was now × (new ≡ old)
  IsDone (Refused number cause) was now old new = Adds (bad_line number cause) was now × (new ≡ old)

  -- A line is a round of a served life, from a front that knows the logs: one that is alike knows them behind it too. So it keeps what a
  -- stretch of this line promises: an input isn't missed, and a request is done exactly where none with its numbers stands. And what is answered
  -- again is the first output of the request in the crash-free world as which the world ends.
  pub record ServesLine (found : Logs) (front : Front) (line : Line) (kept : Front) (old new : World D d) : Type 0 where
    pub round : Round Front Note
    pub is : IsRound serving program (print_of old) x front (state_of old) line round
    pub ends : state_behind (state_of old) round ≡ state_of new
    pub alike : TakenAlike kept (side_behind serving front round)
    pub knows : KnowsLogs program (side_behind serving front round) (forced_logs (world_of new))
    pub promise : ServesStretch program found front (record { opened = state_of old; settled = []; lines = line ∷ []; rounds = round ∷ [] })
    pub again : (r : Request) (m : ℕ) (args : List ℤ) (v : PlainWorld) → line ≡ Asks r → ask front r ≡ Again m args → EndsCrashFree program found (world_of new) v → IsFirstOutput (forced_logs (world_of new)) v r.who (record { request = r; reply = Some (m, args) }) (m, args)

  -- a line was done, and answered in one piece behind it
  pub record IsServed {K : Type 0} (k : sink.Ghosts K) (line : Line) (was now : Service) (old new : World D d) (before after : K) : Type 0 where
    pub mid : Service
    pub done : IsDone line was mid old new
    pub settled : IsSettledFrom program old new
    pub serves : (found : Logs) (front : Front) → IsFit program → Tells old → Stands program (print_of old) found (state_of old) → TakenAlike was.front.taken front → KnowsLogs program front (forced_logs (world_of old)) → ServesLine found front line now.front.taken old new
    pub answers : AnswersOver new k mid.lines mid now before after

  module _ {I K : Type 0} (i : source.Ghosts I) (k : sink.Ghosts K) where
    -- Lines were read and served between two moments, one after another; one without tokens is passed over.
    pub data Serves : Moment d I K → Moment d I K → Type 0 where
      no_line : {m : Moment d I K} → Serves m m
      passed_over : {m n : Moment d I K} {source : I} {next : Service} {read : Read} → Serves m n → ReadsNext i n.source source n.service next (Some read) → line_read program next.lines read ≡ None
          → Serves m (record { source = source; service = next; world = n.world; out = n.out })
      was_served : {m n : Moment d I K} {source : I} {next after : Service} {world : World D d} {out : K} {read : Read} {line : Line} → Serves m n → ReadsNext i n.source source n.service next (Some read) → line_read program next.lines read ≡ Some line
          → IsServed k line next after n.world world n.out out → Serves m (record { source = source; service = after; world = world; out = out })

module _ {D : Type 0} (b : disk.Ghosts D) {d : disk.Ghosts (Torn D)} (program : Program) (x : PolicyIntervals) (level : ReportLevel) where
  -- the event of a line, which may come, was cut off, or what follows it; or memory was wanting for its answer
  abbrev pub FailsToDo : Line → Service → World (Torn D) d → World (Torn D) d → Cut → Type 0
  FailsToDo line was old new cut =
      ((e : Event × Form) × (event_of line ≡ Some e) × MayCome program e.0 × FailsToGather b program x level e.1 (agenda_for e.0) was old new cut)
      ⊎ ((cut ≡ cuts.Memory) × (new ≡ old))

  -- a line wasn't done, or its answer wasn't printed
  abbrev pub FailsToServe : {K : Type 0} → sink.Ghosts K → List ℕ → Line → Service → World (Torn D) d → World (Torn D) d → K → K → Why → Type 0
  FailsToServe k print line was old new before after why =
      ((cut : Cut) × (why ≡ why_of_cut print cut) × FailsToDo line was old new cut × (after ≡ before))
      ⊎ (KeepsAll old new × FailsToAnswer k before after why)
