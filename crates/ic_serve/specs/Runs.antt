-- Lines that are served over the disks of a call, over one world behind another.
use Rattle.std.specs.Prelude.{◌≡◌, ◌⊎◌, ⊤, ℕ, List, Option, Some, None, Result, Ok, Err, codes}
use Rattle.ic_base.specs.declared.scenario.Program.{Program}
use Rattle.def_client.specs.Fronts.{Front}
use Rattle.def_facts.specs.World.{forced_logs}
use Rattle.def_log.specs.Laws.{IsBytes}
use Rattle.def_run.specs.Openings.{BeginsSound, IsFound, start_refusal, found_refusal}
use Rattle.def_run.specs.Reports.{logs_of}
use Rattle.def_run.specs.SystemStates.{SystemState}
use Rattle.law_client.specs.Rounds.{Stands}
use Rattle.law_run.specs.ProgramBytes.{IsFit}
use Rattle.law_serve.specs.Replies.{KnowsLogs}
use Rattle.ic_disk.specs.TornDisks.{Torn}
use Rattle.ic_disk.specs.Torns.{torn}
use Rattle.ic_disk.specs.declared.disk.Disk as disk
use Rattle.ic_disk.specs.declared.sink.Sink as sink
use Rattle.ic_lines.specs.declared.lines.Lines as source
use Rattle.ic_plan.specs.declared.run_texts.ServedTexts.{ServedTexts}
use Rattle.ic_report.specs.Ends.{EndsAs}
use Rattle.ic_report.specs.declared.ending.Why.{Why}
use Rattle.ic_report.specs.declared.ending.Why.TheVariants.{Memory}
use Rattle.ic_run.specs.Lending.{lent, left_over, merged}
use Rattle.ic_run.specs.Running.{KeepsAll}
use Rattle.ic_run.specs.Whys.{why_of_start}
use Rattle.ic_client.specs.Seeing.{TakenAlike}
use Rattle.ic_world.specs.Opening.{Finds, AllTell, disks_under, files_on}
use Rattle.ic_world.specs.Views.{components_of, world_of, state_of, print_of}
use Rattle.ic_world.specs.declared.opening.StartRefused.{StartRefused}
use Rattle.ic_world.specs.declared.world.World.{World}
use Rattle.ic_serve.specs.Opening.{Opens, FailsToOpen}
use Rattle.ic_serve.specs.Services.{IsNew}
use Rattle.ic_serve.specs.Worlds.{ServesWorld, StopsWorld}
use Rattle.ic_serve.specs.declared.line.Line as code
use Rattle.ic_serve.specs.declared.service.Service.{Service}
use Rattle.ic_serve.specs.declared.stretch.First.{First}
use Rattle.ic_serve.specs.declared.stretch.First.TheVariants.{Opening, Line as ALine}

-- a source of lines, what is kept beside a world, the disks of the components, and the output, between two worlds
pub record Between (D I K : Type 0) : Type 0 where
  pub source : I
  pub service : Service
  pub disks : List D
  pub out : K

-- what comes first behind a world: the line for which it was given up, if it was for one
abbrev pub first_behind : Option code.Line → First
first_behind None = Opening
first_behind (Some line) = ALine line

module _ {D : Type 0} (b : disk.Ghosts D) (program : Program) (print : List ℕ) where
  -- nothing that disks hold lets a world refuse them: they hold logs that aren't refused, or are blank where the run opens
  abbrev pub AreUnrefused : First → List D → Type 0
  AreUnrefused Opening disks = (start_refusal program (files_on b program disks) ≡ None) ⊎ (found_refusal program print (files_on b program disks) ≡ None)
  AreUnrefused (ALine line) disks = found_refusal program print (files_on b program disks) ≡ None

  -- Disks tell what they hold, in bytes, and it isn't refused by a world over which something comes first; one that takes up their logs begins
  -- soundly.
  pub record HoldSound (first : First) (disks : List D) : Type 0 where
    pub bytes : (x : D) → b.tells x → IsBytes (b.seen x)
    pub tell : AllTell b disks
    pub opens : AreUnrefused first disks
    pub taken_up : (p : SystemState) → IsFound program print (files_on b program disks) p → BeginsSound program print (files_on b program disks) p

  -- a front that is alike knows the logs that disks hold: it has just their requests, and the reply of each is its first output in their
  -- crash-free world
  abbrev pub KnowsDisks : Front → List D → Type 0
  KnowsDisks front disks = (p : SystemState) → IsFound program print (files_on b program disks) p → (other : Front) × TakenAlike front other × KnowsLogs program other (forced_logs p.world)

  -- the front that is kept as something comes first over a world; where the run opens it is built from the logs
  abbrev pub KnowsDisksFor : First → Front → List D → Type 0
  KnowsDisksFor Opening front disks = ⊤
  KnowsDisksFor (ALine line) front disks = KnowsDisks front disks

  -- the world over which something comes first: where the run opens, or behind one that was given up
  abbrev pub OpensFor : First → List D → World (Torn D) (torn b) → Type 0
  OpensFor Opening disks new = Opens b program print disks new
  OpensFor (ALine line) disks new = Finds b program print disks new

  -- why there is none; a world behind another is never refused
  abbrev pub FailsToOpenFor : First → List D → StartRefused D → Type 0
  FailsToOpenFor Opening disks refused = FailsToOpen b program print disks refused
  FailsToOpenFor (ALine line) disks refused = ⊥

module _ {D : Type 0} (b : disk.Ghosts D) {K : Type 0} (k : sink.Ghosts K) (r : ServedTexts) {I : Type 0} (i : source.Ghosts I) where
  -- a world opened, lines were served over it, and its disks are handed back
  pub record ServesStretch (first : First) (was now : Between D I K) (next : Option code.Line) : Type 0 where
    pub old : World (Torn D) (torn b)
    pub new : World (Torn D) (torn b)
    pub opens : OpensFor b r.program r.fingerprint first was.disks old
    -- over disks that hold sound logs it is explained by what these logs have
    pub stands : IsFit r.program → HoldSound b r.program r.fingerprint first was.disks → Stands r.program (print_of old) (forced_logs (world_of old)) (state_of old)
    -- its logs are forced, so a front that they tell of knows them
    pub forced : logs_of (world_of old) ≡ forced_logs (world_of old)
    pub serves : ServesWorld b k r i first (record { source = was.source; service = was.service; world = old; out = was.out }) (record { source = now.source; service = now.service; world = new; out = now.out }) next
    pub disks : KeepsAll old new
    pub back : now.disks ≡ disks_under (components_of new)
    -- so they hold sound logs again, which the front that is kept knows
    pub sound : IsFit r.program → HoldSound b r.program r.fingerprint first was.disks → KnowsDisksFor b r.program r.fingerprint first was.service.front.taken was.disks → HoldSound b r.program r.fingerprint (first_behind next) now.disks × KnowsDisksFor b r.program r.fingerprint (first_behind next) now.service.front.taken now.disks

  -- no world opened, or what comes next is the reason for which the run ends
  pub data StopsStretch (first : First) (was now : Between D I K) (why : Why) : Type 0 where
    unopened : (refused : StartRefused D) → why ≡ why_of_start r.fingerprint refused.why → FailsToOpenFor b r.program r.fingerprint first was.disks refused → now.disks ≡ refused.disks.items → now.out ≡ was.out → StopsStretch first was now why
    stopped : (old new : World (Torn D) (torn b)) → OpensFor b r.program r.fingerprint first was.disks old → (IsFit r.program → HoldSound b r.program r.fingerprint first was.disks → Stands r.program (print_of old) (forced_logs (world_of old)) (state_of old))
        → StopsWorld b k r i first (record { source = was.source; service = was.service; world = old; out = was.out }) (record { source = now.source; service = now.service; world = new; out = now.out }) why
        → KeepsAll old new → now.disks ≡ disks_under (components_of new) → StopsStretch first was now why

  abbrev pub StretchOver : First → Between D I K → Between D I K → Result (Option code.Line) Why → Type 0
  StretchOver first was now (Ok next) = ServesStretch first was now next
  StretchOver first was now (Err why) = StopsStretch first was now why

  -- worlds opened one behind another, each up to a line that comes first over the next one
  pub data ServesWorlds (start : Between D I K) : First → Between D I K → Type 0 where
    at_opening : ServesWorlds start Opening start
    behind_another : {first : First} {m n : Between D I K} {line : code.Line} → ServesWorlds start first m → ServesStretch first m n (Some line) → ServesWorlds start (ALine line) n

  -- Whatever number of worlds was given up: where a run opens over disks that hold sound logs, so do those over which the last world opens, and
  -- the front that is kept knows these logs.
  abbrev pub AreSound : Between D I K → First → Between D I K → Type 0
  AreSound start first here = IsFit r.program → HoldSound b r.program r.fingerprint Opening start.disks → HoldSound b r.program r.fingerprint first here.disks × KnowsDisksFor b r.program r.fingerprint first here.service.front.taken here.disks

  -- all lines were served
  pub record ServesToEnd (was now : Between D I K) : Type 0 where
    pub first : First
    pub last : Between D I K
    pub serves : ServesWorlds was first last
    pub ends : ServesStretch first last now None
    pub sound : AreSound was first last
    pub sound_behind : IsFit r.program → HoldSound b r.program r.fingerprint Opening was.disks → HoldSound b r.program r.fingerprint Opening now.disks

  -- why they weren't
  pub record StopsShort (was now : Between D I K) (why : Why) : Type 0 where
    pub first : First
    pub last : Between D I K
    pub serves : ServesWorlds was first last
    pub sound : AreSound was first last
    pub stops : StopsStretch first last now why ⊎ ((why ≡ Memory) × (now ≡ last))

  abbrev pub ServesOver : Between D I K → Between D I K → Result Unit Why → Type 0
  ServesOver was now (Ok _) = ServesToEnd was now
  ServesOver was now (Err why) = StopsShort was now why

  -- lines were served over the disks of the components, from a service that is new
  pub record OverDisks (lines : I) (disks : List D) (before : K) (lines_now : I) (disks_now : List D) (after : K) (result : Result Unit Why) : Type 0 where
    pub service : Service
    pub fresh : IsNew service
    pub behind : Service
    pub serves : ServesOver (record { source = lines; service = service; disks = disks; out = before }) (record { source = lines_now; service = behind; disks = disks_now; out = after }) result

  module _ (lines : I) (disks : List D) (before : K) (lines_now : I) (disks_now : List D) (after : K) (status : ℕ) where
    -- a run that served all has status 0; one that didn't ends with its cause
    abbrev pub Ends : K → Result Unit Why → Type 0
    Ends mid (Ok _) = (status ≡ 0) × (after ≡ mid)
    Ends mid (Err why) = EndsAs k (codes "icserve") (Some r.program) why mid after status

    -- memory was wanting before anything was done
    pub record IsUntried : Type 0 where
      pub memory : status ≡ 12
      pub stay : disks_now ≡ disks
      pub unread : lines_now ≡ lines
      pub silent : after ≡ before

    -- the disks of the components were taken out of those of the call, lines were served over them, and they were put back in their places
    pub record WasServed : Type 0 where
      pub back : List D
      pub mid : K
      pub result : Result Unit Why
      pub serves : OverDisks lines (lent r.program.components disks) before lines_now back mid result
      pub place : disks_now ≡ merged r.program.components (left_over r.program.components disks) back
      pub ends : Ends mid result

    abbrev pub Runs : Type 0
    Runs = IsUntried ⊎ WasServed
