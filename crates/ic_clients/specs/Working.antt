-- Items that are worked off over a world: what becomes of each, what is printed of it, what a crash leaves on the way, and why it goes no
-- further.
use Rattle.std.specs.Prelude.{◌≡◌, ◌⊎◌, ⊤, ℕ, ◌+◌, suc, Bool, true, List, [], ◌∷◌, ◌++◌, fold, map, length, Option, Some, None}
use Rattle.ic_base.specs.declared.events.Event.{Event}
use Rattle.ic_base.specs.declared.events.Trace.{Trace}
use Rattle.ic_base.specs.declared.events.What.{What}
use Rattle.ic_base.specs.declared.events.What.TheVariants as whats
use Rattle.ic_base.specs.declared.refusals.WorldRefused.{WorldRefused}
use Rattle.ic_base.specs.declared.report.ReportLevel.{ReportLevel}
use Rattle.ic_base.specs.declared.scenario.Program.{Program}
use Rattle.def_client.specs.Clients.{Item, clients, turn}
use Rattle.def_client.specs.Fronts.{Front, ask, saw}
use Rattle.def_client.specs.declared.asked.Asked.{Asked}
use Rattle.def_client.specs.declared.asked.Asked.TheVariants.{New}
use Rattle.def_rounds.specs.Rounds.{Turn, Happens, Answers, Round, Ran, Told, side_behind, side_after, state_behind, state_after}
use Rattle.def_run.specs.Executions.{Agenda, Executes, next, whole_agenda}
use Rattle.def_run.specs.SystemStates.{SystemState, Transition, last_state, traces_of}
use Rattle.def_step.specs.Settle.{PolicyIntervals}
use Rattle.def_step.specs.World as definition
use Rattle.ic_client.specs.Fronts.{FrontState, MaySee}
use Rattle.ic_clients.specs.Moments.{Moment, Did, item_pieces, note_pieces, moment_pieces, moments_in, moments_of, done_in}
use Rattle.ic_disk.specs.TornDisks.{Torn}
use Rattle.ic_disk.specs.declared.disk.Disk as disk
use Rattle.ic_disk.specs.declared.sink.Sink as sink
use Rattle.ic_report.specs.Outputs.{Puts}
use Rattle.ic_run.specs.Running.{Follows, Leads, CrashLeavesWay, IsBetween, Outlasts, Executed, WasCut, FailsToTell}
use Rattle.ic_run.specs.Tallies.{Counts}
use Rattle.ic_run.specs.declared.running.Cut.{Cut}
use Rattle.ic_run.specs.declared.running.Cut.TheVariants as cuts
use Rattle.ic_run.specs.declared.tally.Tally.{Tally}
use Rattle.ic_world.specs.Stepping.{KeepsDisks, CrashLeavesLogs, FailsToStep}
use Rattle.ic_world.specs.Views.{world_of, state_of, print_of, Tells}
use Rattle.ic_world.specs.declared.world.World.{World}

-- what is answered to an event of a schedule with clients: a request is asked of the front, and any other event is new
abbrev pub answered_by : What → Front → Asked
answered_by (whats.Input c handler args) front = ask front (record { who = c; handler = handler; args = args })
answered_by _ front = New

-- the only event that is left, if one is, may be seen by the front: a request that it takes is new there, and there is room for it
abbrev pub MayFollow : FrontState → Agenda → Type 0
MayFollow f a = (a.left ≡ []) ⊎ ((e : Event) × (a.left ≡ e ∷ []) × (a.last ≡ None) × ((t : Trace) → t.event ≡ e → MaySee f t))

-- These transitions are a run from one agenda to another: each is a step of the event that is next, and they are an execution where the disks
-- tell their bytes.
pub record IsRun (tells : Type 0) (program : Program) (print : List ℕ) (x : PolicyIntervals) (a : Agenda) (p : SystemState) (vs : List Transition) (b : Agenda) : Type 0 where
  pub follows : Follows program x a p vs b
  pub executes : tells → Executes program print x a p vs b

-- What became of an item. A new request, or an event that is none, was done with all that the policy asks for behind it; any other request was
-- answered with no step.
abbrev pub FollowsItem : Type 0 → Program → List ℕ → PolicyIntervals → Front → SystemState → Item → Round Front Asked → Type 0
FollowsItem tells program print x front p i (Ran vs) =
    (e : Event) × (agenda : Agenda) × (turn p.world front i ≡ Happens e) × IsRun tells program print x (whole_agenda (e ∷ []) true) p vs agenda × (next (last_state p vs).world x agenda ≡ None)
FollowsItem tells program print x front p i (Told a behind) = turn p.world front i ≡ Answers a behind
FollowsItem tells program print x front p i _ = ⊥

-- the same for items in order
abbrev pub FollowItems : Type 0 → Program → List ℕ → PolicyIntervals → Front → SystemState → List Item → List (Round Front Asked) → Type 0
FollowItems tells program print x front p [] [] = ⊤
FollowItems tells program print x front p (i ∷ is) (r ∷ rs) = FollowsItem tells program print x front p i r × FollowItems tells program print x (side_behind clients front r) (state_behind p r) is rs
FollowItems tells program print x front p _ _ = ⊥

-- what is to be done behind some rounds: with a first item left that happens, its event; with none left, what settles
abbrev pub begun_by : Turn Front Asked → Agenda
begun_by (Happens e) = whole_agenda (e ∷ []) true
begun_by _ = whole_agenda [] true

abbrev pub begun_for : definition.World → Front → Bool → List Item → Agenda
begun_for w front halts [] = whole_agenda [] halts
begun_for w front halts (i ∷ is) = begun_by (turn w front i)

-- Some first items were worked off in rounds from this state on, and what is to be done behind them came so far: the event of the item behind
-- them with what the policy asks for, or with none left what settles. These moments were all.
pub record StandsAt (tells : Type 0) (program : Program) (print : List ℕ) (x : PolicyIntervals) (items : List Item) (halts : Bool) (p : SystemState) (moments : List Moment) (agenda : Agenda) : Type 0 where
  pub first : List Item
  pub rest : List Item
  pub are : items ≡ first ++ rest
  pub rounds : List (Round Front Asked)
  pub transitions : List Transition
  pub all : moments ≡ moments_of first rounds ++ map Did transitions
  pub follows : FollowItems tells program print x [] p first rounds
  pub begun : Agenda
  pub begins : begun_for (state_after p rounds).world (side_after clients [] rounds) halts rest ≡ begun
  pub onward : IsRun tells program print x begun (state_after p rounds) transitions agenda

module _ {D : Type 0} {d : disk.Ghosts D} {K : Type 0} (k : sink.Ghosts K) (program : Program) (x : PolicyIntervals) (level : ReportLevel) where
  -- each event among these moments outlasts a crash, with the pieces of the moments before it
  abbrev pub EachOutlasts : ℕ → World D d → World D d → K → List Moment → Option What → Type 0
  EachOutlasts number old new before moments tried =
      (us ws : List Moment) (v : Transition) → moments ≡ us ++ Did v ∷ ws → Outlasts k program (moment_pieces program level (suc number) us) old new before (done_in us) v (done_in ws) tried

  -- an agenda was done, and the front saw each event
  pub record Pursued (was : Tally) (a : Agenda) (here behind : Front) (old new : World D d) (before after : K) (tally : Tally) : Type 0 where
    pub executed : Executed k program x (item_pieces program level) was a old new before after tally
    pub seen : behind ≡ fold saw here (traces_of executed.transitions)

  -- an item was worked off in a round, counted with what was counted before, and its lines were printed
  pub record WorkedOff (i : Item) (was : Tally) (here behind : Front) (old new : World D d) (before after : K) (tally : Tally) : Type 0 where
    pub round : Round Front Asked
    pub follows : FollowsItem (Tells old) program (print_of old) x here (state_of old) i round
    pub seen : behind ≡ side_behind clients here round
    pub ends : state_behind (state_of old) round ≡ state_of new
    pub leads : Leads program old (done_in (moments_in i round)) new
    pub counts : (told : List Trace) → Counts told was → Counts (told ++ traces_of (done_in (moments_in i round))) tally
    pub numbered : tally.events ≡ was.events + length (moments_in i round)
    pub printed : Puts k (moment_pieces program level (suc was.events) (moments_in i round)) before after
    pub outlast : EachOutlasts was.events old new before (moments_in i round) None

  -- so were these, one after another, from a world over which nothing was asked before
  pub record AllWorkedOff (items : List Item) (front : Front) (old new : World D d) (before after : K) (tally : Tally) : Type 0 where
    pub rounds : List (Round Front Asked)
    pub follows : FollowItems (Tells old) program (print_of old) x [] (state_of old) items rounds
    pub seen : front ≡ side_after clients [] rounds
    pub ends : state_after (state_of old) rounds ≡ state_of new
    pub leads : Leads program old (done_in (moments_of items rounds)) new
    pub counts : Counts (traces_of (done_in (moments_of items rounds))) tally
    pub numbered : tally.events ≡ length (moments_of items rounds)
    pub printed : Puts k (moment_pieces program level 1 (moments_of items rounds)) before after
    pub outlast : EachOutlasts 0 old new before (moments_of items rounds) None

  -- all items were worked off, and unless the run halts the world was settled behind them
  pub record RanClients (items : List Item) (halts : Bool) (old new : World D d) (before after : K) (tally : Tally) : Type 0 where
    pub moments : List Moment
    pub agenda : Agenda
    pub stands : StandsAt (Tells old) program (print_of old) x items halts (state_of old) moments agenda
    pub all : stands.rest ≡ []
    pub nothing : next (world_of new) x agenda ≡ None
    pub leads : Leads program old (done_in moments) new
    pub counts : Counts (traces_of (done_in moments)) tally
    pub numbered : tally.events ≡ length moments
    pub printed : Puts k (moment_pieces program level 1 moments) before after
    pub outlast : EachOutlasts 0 old new before moments None

  -- the lines of an event weren't printed
  pub record LinesUntold (items : List Item) (halts : Bool) (old new : World D d) (before after : K) (cut : Cut) : Type 0 where
    pub moments : List Moment
    pub last : Transition
    pub agenda : Agenda
    pub stands : StandsAt (Tells old) program (print_of old) x items halts (state_of old) (moments ++ Did last ∷ []) agenda
    pub leads : Leads program old (done_in (moments ++ Did last ∷ [])) new
    pub now : K
    pub printed : Puts k (moment_pieces program level 1 moments) before now
    pub fails : FailsToTell k (item_pieces program level (suc (length moments)) last.trace) now after cut
    pub outlast : EachOutlasts 0 old new before (moments ++ Did last ∷ []) None

  -- An item behind some that were worked off was answered with no step, and its line wasn't printed; or there was no room for a new request.
  pub record NoteUntold (items : List Item) (old new : World D d) (before after : K) (cut : Cut) : Type 0 where
    pub first : List Item
    pub item : Item
    pub rest : List Item
    pub are : items ≡ first ++ item ∷ rest
    pub front : Front
    pub tally : Tally
    pub now : K
    pub worked_off : AllWorkedOff first front old new before now tally
    pub untold : ((answer : Asked) × (turn (world_of new) front item ≡ Answers answer front) × FailsToTell k (note_pieces program level (suc tally.events) item answer) now after cut) ⊎ ((cut ≡ cuts.Memory) × (after ≡ now))

module _ {D : Type 0} (b : disk.Ghosts D) {d : disk.Ghosts (Torn D)} {K : Type 0} (k : sink.Ghosts K) (program : Program) (x : PolicyIntervals) (level : ReportLevel) where
  -- an event wasn't done, which was next behind these moments, whose lines were printed; and why
  pub record IsRefused (items : List Item) (halts : Bool) (old new : World (Torn D) d) (before after : K) (why : WorldRefused) : Type 0 where
    pub moments : List Moment
    pub agenda : Agenda
    pub stands : StandsAt (Tells old) program (print_of old) x items halts (state_of old) moments agenda
    pub now : World (Torn D) d
    pub leads : Leads program old (done_in moments) now
    pub event : Event
    pub left : List Event
    pub next : next (world_of now) x agenda ≡ Some (record { event = event; left = left })
    pub fails : FailsToStep b program now event new why
    pub disks : KeepsDisks now event.what new
    pub crash : CrashLeavesWay program old (done_in moments) (Some event.what) new
    pub printed : Puts k (moment_pieces program level 1 moments) before after
    pub outlast : EachOutlasts k program x level 0 old new before moments (Some event.what)
    pub here : IsBetween program old new (done_in moments) [] (Some event.what) now
    pub within : CrashLeavesLogs program now event.what new

  -- why an item isn't worked off: its event or what follows was refused, or its lines weren't printed; or there was no room for it
  abbrev pub FailsToWork : Item → Tally → Front → World (Torn D) d → World (Torn D) d → K → K → Cut → Type 0
  FailsToWork i was here old new before after cut =
      ((e : Event) × (turn (world_of old) here i ≡ Happens e) × WasCut b k program x (item_pieces program level) was.events (whole_agenda (e ∷ []) true) old new before after cut)
      ⊎ ((new ≡ old) × (((answer : Asked) × (turn (world_of old) here i ≡ Answers answer here) × FailsToTell k (note_pieces program level (suc was.events) i answer) before after cut) ⊎ ((cut ≡ cuts.Memory) × (after ≡ before))))

  -- behind some items that were worked off, a first one isn't
  pub record FailsToWorkAll (items : List Item) (old new : World (Torn D) d) (before after : K) (cut : Cut) : Type 0 where
    pub first : List Item
    pub item : Item
    pub rest : List Item
    pub are : items ≡ first ++ item ∷ rest
    pub front : Front
    pub mid : World (Torn D) d
    pub tally : Tally
    pub now : K
    pub worked_off : AllWorkedOff k program x level first front old mid before now tally
    pub fails : FailsToWork item tally front mid new now after cut

  -- why a run with clients goes no further
  abbrev pub ClientsCut : List Item → Bool → World (Torn D) d → World (Torn D) d → K → K → Cut → Type 0
  ClientsCut items halts old new before after (cuts.Refused why) = IsRefused items halts old new before after why
  ClientsCut items halts old new before after cut = LinesUntold k program x level items halts old new before after cut ⊎ NoteUntold k program x level items old new before after cut
