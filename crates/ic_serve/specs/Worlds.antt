-- What is served over one world.
use Rattle.std.specs.Prelude.{◌≡◌, ◌⊎◌, ⊤, ℕ, ◌+◌, true, false, cond, List, [], ◌∷◌, Option, Some, None}
use Rattle.std.specs.List.{AllByRecursion}
use Rattle.def_report.specs.Summaries.{summary_lines}
use Rattle.def_run.specs.Executions.{whole_agenda}
use Rattle.def_run.specs.SystemStates.{without_stop}
use Rattle.ic_base.specs.Programs.{is_pcom}
use Rattle.ic_base.specs.declared.events.Event.{Event}
use Rattle.ic_base.specs.declared.events.What.TheVariants as whats
use Rattle.ic_base.specs.declared.scenario.Component.{Component}
use Rattle.ic_base.specs.declared.scenario.Program.{Program}
use Rattle.ic_disk.specs.TornDisks.{Torn}
use Rattle.ic_disk.specs.declared.disk.Disk as disk
use Rattle.ic_disk.specs.declared.sink.Sink as sink
use Rattle.ic_lines.specs.declared.lines.Lines as source
use Rattle.ic_lines.specs.declared.lines.Read.{Read}
use Rattle.ic_plan.specs.declared.run_texts.ServedTexts.{ServedTexts}
use Rattle.ic_report.specs.Outputs.{Puts}
use Rattle.ic_report.specs.declared.ending.Why.{Why}
use Rattle.ic_report.specs.declared.ending.Why.TheVariants.{Memory}
use Rattle.ic_run.specs.Agendas.{MayCome}
use Rattle.ic_run.specs.Running.{KeepsAll}
use Rattle.ic_run.specs.Summaries.{summed, FailsToTell}
use Rattle.ic_run.specs.Whys.{why_of_cut}
use Rattle.ic_run.specs.declared.running.Cut.{Cut}
use Rattle.ic_settle.specs.Policies.{intervals_of}
use Rattle.ic_world.specs.Views.{world_of, played_of}
use Rattle.ic_world.specs.declared.world.World.{World}
use Rattle.ic_serve.specs.Answering.{AnswersOver, FailsToAnswer}
use Rattle.ic_serve.specs.Fronts.{IsOfLogs, RefusesLogs}
use Rattle.ic_serve.specs.Gathering.{Gathered, FailsToGather}
use Rattle.ic_serve.specs.Reading.{ReadsNext, FailsToRead, line_as, line_read, MayBeServed}
use Rattle.ic_serve.specs.Serving.{IsSettledFrom, KeepsRequests, IsServed, FailsToServe, Moment, Serves}
use Rattle.def_serve.specs.Lines.{Line}
use Rattle.ic_serve.specs.declared.line.Line as code
use Rattle.ic_serve.specs.declared.service.Service.{Service}
use Rattle.ic_serve.specs.declared.stretch.First.{First}
use Rattle.ic_serve.specs.declared.stretch.First.TheVariants.{Opening, Line as ALine}
use Rattle.ic_serve.specs.declared.telling.Form.TheVariants.{Following}

-- what was read next behind some lines, with its number: nothing was left, or a line that is answered first over the next world
abbrev pub IsNext : Program → ℕ → Option Read → Option code.Line → Type 0
IsNext program number None None = ⊤
IsNext program number (Some read) (Some line) = (line_read program number read ≡ Some (line_as number line)) × MayBeServed program line
IsNext program number _ _ = ⊥

-- the line that comes first, if one does, may be served
abbrev pub MayComeFirst : Program → First → Type 0
MayComeFirst program Opening = ⊤
MayComeFirst program (ALine line) = MayBeServed program line

-- a checkpoint of each Pcom, with the numbers counted from i
abbrev pub checkpoints_from : ℕ → List Component → List Event
checkpoints_from i [] = []
checkpoints_from i (x ∷ xs) = cond (is_pcom x.kind) (without_stop (whats.Checkpoint (record { 0 = i })) ∷ checkpoints_from (i + 1) xs) (checkpoints_from (i + 1) xs)

abbrev pub checkpoints_of : Program → List Event
checkpoints_of program = checkpoints_from 0 program.components

-- what is kept stays, but for the counts of what the world played and used
pub record IsReset (was now : Service) : Type 0 where
  pub front : now.front ≡ was.front
  pub tally : now.tally ≡ was.tally
  pub lines : now.lines ≡ was.lines
  pub piece : now.piece ≡ was.piece

module _ {D : Type 0} (b : disk.Ghosts D) {d : disk.Ghosts (Torn D)} (r : ServedTexts) where
  -- nothing but what settles, and the policy asks for, behind these events
  abbrev pub Settles : List Event → Service → Service → World (Torn D) d → World (Torn D) d → Type 0
  Settles events was now old new = Gathered r.program (intervals_of r.policy) r.policy.report Following (whole_agenda events false) was now old new

  -- why they aren't all done, where they may come
  abbrev pub FailsToSettle : List Event → Service → World (Torn D) d → World (Torn D) d → Why → Type 0
  FailsToSettle events was old new why = (cut : Cut) × (why ≡ why_of_cut r.fingerprint cut) × AllByRecursion (MayCome r.program) events × FailsToGather b r.program (intervals_of r.policy) r.policy.report Following (whole_agenda events false) was old new cut

  -- a world is settled behind a checkpoint of each Pcom, to be renewed over its disks
  pub record IsGivenUp (was now : Service) (old new : World (Torn D) d) : Type 0 where
    pub gathered : Service
    pub settles : Settles (checkpoints_of r.program) was gathered old new
    pub requests : KeepsRequests r.program was.front.taken now.front.taken old new
    pub settled : IsSettledFrom r.program old new
    pub reset : IsReset gathered now
    pub played : now.played ≡ gathered.played + played_of new

  -- why it isn't; want of memory may come before anything is done
  abbrev pub FailsToGiveUp : Service → World (Torn D) d → World (Torn D) d → Why → Type 0
  FailsToGiveUp was old new why = FailsToSettle (checkpoints_of r.program) was old new why ⊎ ((why ≡ Memory) × KeepsAll old new)

-- the front that is kept as a world opens: first the one that its logs tell of
abbrev pub Loads : Program → First → {D : Type 0} {d : disk.Ghosts D} → World D d → Service → Service → Type 0
Loads program Opening w was now = (now ≡ record was { front = now.front }) × IsOfLogs program w now.front
Loads program (ALine line) w was now = now ≡ was

module _ {D : Type 0} (b : disk.Ghosts D) {d : disk.Ghosts (Torn D)} {K : Type 0} (k : sink.Ghosts K) (r : ServedTexts) where
  -- what is answered first: that the run is open, or a line
  abbrev pub AnswersFirst : First → Service → Service → World (Torn D) d → World (Torn D) d → K → K → Type 0
  AnswersFirst Opening was now old new before after = AnswersOver new k 0 was now before after × (new ≡ old)
  AnswersFirst (ALine line) was now old new before after = IsServed r.program (intervals_of r.policy) r.policy.report k (line_as was.lines line) was now old new before after

  -- a world that was just opened is settled, and what comes first is answered
  pub record IsTakenUp (first : First) (was now : Service) (old new : World (Torn D) d) (before after : K) : Type 0 where
    pub loaded : Service
    pub settled : Service
    pub mid : World (Torn D) d
    pub front : Loads r.program first old was loaded
    pub settles : Settles b r [] loaded settled old mid
    pub from : IsSettledFrom r.program old mid
    pub requests : KeepsRequests r.program loaded.front.taken settled.front.taken old mid
    pub answers : AnswersFirst first settled now mid new before after

  -- why it isn't answered
  abbrev pub FailsToAnswerFirst : First → Service → World (Torn D) d → World (Torn D) d → K → K → Why → Type 0
  FailsToAnswerFirst Opening was old new before after why = FailsToAnswer k before after why × (new ≡ old)
  FailsToAnswerFirst (ALine line) was old new before after why = FailsToServe b r.program (intervals_of r.policy) r.policy.report k r.fingerprint (line_as was.lines line) was old new before after why

  -- why a world that was just opened isn't taken up
  pub data FailsToTakeUp (first : First) (was : Service) (old new : World (Torn D) d) (before after : K) (why : Why) : Type 0 where
    unfit : RefusesLogs r.program old why → new ≡ old → after ≡ before → FailsToTakeUp first was old new before after why
    unsettled : (loaded : Service) → FailsToSettle b r [] loaded old new why → after ≡ before → FailsToTakeUp first was old new before after why
    unanswered : (loaded settled : Service) (mid : World (Torn D) d) → Settles b r [] loaded settled old mid → IsSettledFrom r.program old mid → FailsToAnswerFirst first settled mid new before after why → FailsToTakeUp first was old new before after why

  module _ {I : Type 0} (i : source.Ghosts I) where
    abbrev pub ServesBetween : Moment d I K → Moment d I K → Type 0
    ServesBetween was now = Serves r.program (intervals_of r.policy) r.policy.report i k was now

    -- lines were served, and this was read next
    pub record HasServed (was now : Moment d I K) (next : Option code.Line) : Type 0 where
      pub last : Moment d I K
      pub serves : ServesBetween was last
      pub read : Option Read
      pub reads : ReadsNext i last.source now.source last.service now.service read
      pub is : IsNext r.program now.service.lines read next
      pub world : now.world ≡ last.world
      pub silent : now.out ≡ last.out

    -- why the line behind these isn't served: none was read; or it was and wasn't done, or its answer wasn't printed; or memory was wanting
    pub data StopsFor (at now : Moment d I K) (why : Why) : Type 0 where
      unread : FailsToRead i at.source now.source why → now.out ≡ at.out → now.world ≡ at.world → StopsFor at now why
      unserved : (read : Read) (next : Service) (line : Line) → ReadsNext i at.source now.source at.service next (Some read) → line_read r.program next.lines read ≡ Some line
          → FailsToServe b r.program (intervals_of r.policy) r.policy.report k r.fingerprint line next at.world now.world at.out now.out why → StopsFor at now why
      short : why ≡ Memory → now.out ≡ at.out → now.world ≡ at.world → StopsFor at now why

    -- some lines were served, and the next one isn't
    pub record FailsToServeOn (was now : Moment d I K) (why : Why) : Type 0 where
      pub last : Moment d I K
      pub serves : ServesBetween was last
      pub stops : StopsFor last now why
      pub disks : KeepsAll was.world now.world

    -- How what is served over a world ends: behind the last line the summary is printed; else the world is settled behind some events, to be
    -- given up for another one.
    abbrev pub EndsWorld : Option code.Line → Moment d I K → Moment d I K → Type 0
    EndsWorld None was now = Puts k (summary_lines r.program (summed r.program true was.service.tally (was.service.played + played_of was.world) (world_of was.world)) ∷ []) was.out now.out × (now.world ≡ was.world)
    EndsWorld (Some line) was now = IsGivenUp b r was.service now.service was.world now.world × (now.out ≡ was.out)

    -- why it doesn't
    abbrev pub FailsToEnd : Option code.Line → Moment d I K → Moment d I K → Why → Type 0
    FailsToEnd None was now why = FailsToTell k (summary_lines r.program (summed r.program true was.service.tally (was.service.played + played_of was.world) (world_of was.world)) ∷ []) was.out now.out why × (now.world ≡ was.world)
    FailsToEnd (Some line) was now why = FailsToGiveUp b r was.service was.world now.world why × (now.out ≡ was.out)

    -- a world that was just opened is taken up before the next line is read
    pub record Begins (first : First) (was opened : Moment d I K) : Type 0 where
      pub up : IsTakenUp first was.service opened.service was.world opened.world was.out opened.out
      pub source : opened.source ≡ was.source

    -- what is served over a world that was just opened
    pub record ServesWorld (first : First) (was now : Moment d I K) (next : Option code.Line) : Type 0 where
      pub opened : Moment d I K
      pub rest : Moment d I K
      pub begins : Begins first was opened
      pub served : HasServed opened rest next
      pub ends : EndsWorld next rest now
      pub settled : IsSettledFrom r.program was.world now.world
      pub source : now.source ≡ rest.source

    -- why it isn't served to its end
    pub data StopsWorld (first : First) (was now : Moment d I K) (why : Why) : Type 0 where
      untaken : FailsToTakeUp first was.service was.world now.world was.out now.out why → now.source ≡ was.source → StopsWorld first was now why
      unserved_on : (opened : Moment d I K) → Begins first was opened → FailsToServeOn opened now why → StopsWorld first was now why
      unended : (opened rest : Moment d I K) (next : Option code.Line) → Begins first was opened → HasServed opened rest next → FailsToEnd next rest now why → now.source ≡ rest.source → StopsWorld first was now why
