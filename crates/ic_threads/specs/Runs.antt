-- What a live run over disks comes to: what it did and what it prints.
use Rattle.std.specs.Prelude.{◌≡◌, ◌⊎◌, ◌+◌, ℕ, true, false, List, [], ◌∷◌, ◌++◌, flat_map, length, codes, slice_get, Option, IfSome, Some, None, Result, Ok, Err}
use Rattle.ic_base.specs.declared.events.Event.{Event}
use Rattle.ic_joins.specs.Threads.{FailsToRun, faults_on}
use Rattle.ic_joins.specs.declared.threads.ThreadsRefused.{ThreadsRefused}
use Rattle.ic_joins.specs.declared.threads.ThreadsRefused.TheVariants as threads
use Rattle.ic_report.specs.Ends.{EndsAs}
use Rattle.ic_report.specs.declared.ending.Why.{Why}
use Rattle.ic_report.specs.declared.ending.Why.TheVariants.{Memory}
use Rattle.ic_run.specs.Lending.{lent, left_over, merged}
use Rattle.ic_run.specs.Summaries.{summed, FailsToTell}
use Rattle.ic_run.specs.Whys.{why_of_cut, why_of_start, why_of_world}
use Rattle.ic_run.specs.declared.running.Cut.{Cut}
use Rattle.ic_run.specs.declared.tally.Tally.{Tally}
use Rattle.ic_threads.specs.Concluding.{shown_in}
use Rattle.ic_threads.specs.Ending.{EndsJoined}
use Rattle.ic_threads.specs.Joined.{JoinsUp}
use Rattle.ic_threads.specs.declared.joined.Joined.{Joined}
use Rattle.ic_world.specs.Opening.{disks_in, disks_under, files_on, AllTell}
use Rattle.ic_base.specs.declared.messages.ComId.{ComId}
use Rattle.ic_base.specs.declared.messages.Output.{Output}
use Rattle.ic_base.specs.declared.scenario.Program.{Program}
use Rattle.def_live.specs.Serial.{agenda_left}
use Rattle.def_live_run.specs.Reports.{in_order, in_both, output_lines}
use Rattle.def_report.specs.Summaries.{summary_lines}
use Rattle.def_run.specs.Executions.{Agenda, next}
use Rattle.def_run.specs.Reports.{summary_of}
use Rattle.def_run.specs.SystemStates.{SystemState, Transition, has_disk, traces_of}
use Rattle.ic_disk.specs.TornDisks.{Torn}
use Rattle.ic_disk.specs.Torns.{torn}
use Rattle.ic_disk.specs.declared.disk.Disk as disk
use Rattle.ic_disk.specs.declared.sink.Sink as sink
use Rattle.ic_joins.specs.Assembling.{IsAssembled, IsJoined}
use Rattle.ic_joins.specs.Showing.{showings_of}
use Rattle.ic_live.specs.Berthed.{list_of}
use Rattle.ic_live.specs.Ended.{AreReturned, HaveLeft}
use Rattle.ic_live.specs.Faults.{HaveFailed}
use Rattle.ic_live.specs.Turned.{HaveTurned}
use Rattle.ic_node.specs.declared.component.Component.{Component}
use Rattle.ic_plan.specs.declared.run_texts.RunTexts.{RunTexts}
use Rattle.ic_report.specs.Outputs.{if_any, Puts}
use Rattle.ic_run.specs.Running.{Goes}
use Rattle.ic_settle.specs.Policies.{intervals_of}
use Rattle.ic_turn.specs.Progresses.{left_of}
use Rattle.ic_turn.specs.declared.progress.Progress.{Progress}
use Rattle.ic_world.specs.Views.{components_of, world_of, state_of, played_of}
use Rattle.ic_world.specs.declared.world.World.{World}
use Rattle.ic_threads.specs.Counting.{counted, together}
use Rattle.ic_run.specs.Tallies.{Counts}
use Rattle.ic_threads.specs.Serial.{shown_along, DoesLeft, WasCut}
use Rattle.ic_joins.specs.Threads.{JoinsTold}

-- the pieces of the report of both phases: the outputs at once, if any are printed, and the summary at once
abbrev pub report_pieces : RunTexts → List Progress → List (ComId × Output) → SystemState → List Transition → List (List ℕ)
report_pieces r ps shown p vs = if_any (output_lines r.program r.policy.report shown) ++ summary_lines r.program (in_both (counted ps) (in_order r.program shown) (summary_of r.program true p vs)) ∷ []

-- The disks are handed back, as many as before; those of no component as they were.
pub record HandsBack {D : Type 0} (program : Program) (disks now : List D) : Type 0 where
  pub count : length now ≡ length disks
  pub others : (c : ComId) → has_disk program c ≡ false → slice_get now c.0 ≡ slice_get disks c.0

-- the disks that came back, in the places of their components among the others
abbrev pub put_in : {D : Type 0} → Program → List D → Option (List D) → List D
put_in program others None = others
put_in program others (Some back) = merged program.components others back

module _ {D : Type 0} {d : disk.Ghosts (Torn D)} where
  -- all disks of the program come back from below these components
  pub record ComeBack (program : Program) (xs : List (Component (Torn D) d)) (back : Option (List D)) : Type 0 where
    pub is : back ≡ Some (disks_under xs)
    pub count : length (disks_under xs) ≡ disks_in program.components

  -- Why the threads came to nothing, as it is told. The disks come back but for want of memory.
  abbrev pub IsUnthreaded : RunTexts → ThreadsRefused D (Torn D) d → Option (List D) → Why → Type 0
  IsUnthreaded r (threads.Start refused) back why = (back ≡ Some refused.disks.items) × (why ≡ why_of_start r.fingerprint refused.why)
  IsUnthreaded r (threads.Run refused) back why = (ComeBack r.program refused.components back × (why ≡ why_of_world r.fingerprint refused.why)) ⊎ ((back ≡ None) × (why ≡ Memory))
  IsUnthreaded r threads.Memory back why = (back ≡ None) × (why ≡ Memory)

module _ {D : Type 0} (b : disk.Ghosts D) {K : Type 0} (k : sink.Ghosts K) where
  -- Behind the joins all that the components left was done, in the world that is assembled of them, and the report was printed.
  pub record Finishes (r : RunTexts) (xs : List (Component (Torn D) (torn b))) (ps : List Progress) (old new : World (Torn D) (torn b)) (before after : K) : Type 0 where
    pub assembled : IsAssembled r.program r.fingerprint xs (showings_of xs ps) old
    pub joined : IsJoined r.program r.fingerprint xs ps old
    pub transitions : List Transition
    pub agenda : Agenda
    pub goes : Goes r.program (intervals_of r.policy) (agenda_left (flat_map left_of ps)) old transitions agenda new
    pub nothing : next (world_of new) (intervals_of r.policy) agenda ≡ None
    pub printed : Puts k (report_pieces r ps (showings_of xs ps ++ shown_along (traces_of transitions)) (state_of old) transitions) before after

  -- The components ran in threads, and the rest was done behind their joins. Over disks that tell their bytes it ends as the crash-free world.
  pub record LivesIn (r : RunTexts) (disks : List D) (before after : K) (new : World (Torn D) (torn b)) : Type 0 where
    pub components : List (Component (Torn D) (torn b))
    pub progresses : List Progress
    pub returned : AreReturned r.program r.fingerprint components progresses
    pub turned : HaveTurned r.policy.workers r.policy.turns progresses
    pub left : HaveLeft (λ c. list_of c r.schedule.events) components progresses
    pub told : JoinsTold b r.program r.fingerprint r.schedule.events disks components progresses
    pub old : World (Torn D) (torn b)
    pub finishes : Finishes r components progresses old new before after
    -- the disks below hold what its last state has
    pub files : (state_of new).files ≡ files_on b r.program (disks_under (components_of new))
    pub ends : AllTell b disks → EndsJoined r components progresses (state_of old) finishes.transitions new

  -- so it is whatever components the world is assembled of
  abbrev pub FinishesOf : RunTexts → Joined (Torn D) (torn b) → Joined (Torn D) (torn b) → K → K → Type 0
  FinishesOf r old new before after = (xs : List (Component (Torn D) (torn b))) (ps : List Progress) → JoinsUp b r xs ps old → Finishes r xs ps old.world new.world before after

  -- Not all that was left was done: an event was refused, or memory was wanting. Nothing was printed.
  pub record IsCut (r : RunTexts) (left : List Event) (old new : World (Torn D) (torn b)) (before after : K) (why : Why) : Type 0 where
    pub cut : Cut
    pub told : why ≡ why_of_cut r.fingerprint cut
    pub was : WasCut b r.program (intervals_of r.policy) left old new cut
    pub silent : after ≡ before

  -- All that was left was done, and the report wasn't printed whole.
  pub record IsUntold (r : RunTexts) (old new : Joined (Torn D) (torn b)) (before after : K) (why : Why) : Type 0 where
    pub none : Tally
    pub nothing : Counts [] none
    pub serial : Tally
    pub done : DoesLeft r.program (intervals_of r.policy) none old.left old.world new.world old.shown new.shown serial
    pub fails : FailsToTell k (if_any (output_lines r.program r.policy.report new.shown) ++ summary_lines r.program (summed r.program true (shown_in r.program (together old.tally serial) new.shown) (old.played + played_of new.world) (world_of new.world)) ∷ []) before after why

  -- behind the joins not all was done, or not all was printed
  abbrev pub FailsToFinish : RunTexts → Joined (Torn D) (torn b) → Joined (Torn D) (torn b) → K → K → Why → Type 0
  FailsToFinish r old new before after why = IsCut r old.left old.world new.world before after why ⊎ IsUntold r old new before after why

  -- The components ran in threads, and behind their joins not all was done, or not all was printed. Behind the joins their disks had failed no
  -- less than before the threads.
  pub record LivesShort (r : RunTexts) (disks : List D) (before after : K) (new : World (Torn D) (torn b)) (why : Why) : Type 0 where
    pub components : List (Component (Torn D) (torn b))
    pub progresses : List Progress
    pub returned : AreReturned r.program r.fingerprint components progresses
    pub since : HaveFailed (faults_on b disks) components
    pub told : JoinsTold b r.program r.fingerprint r.schedule.events disks components progresses
    pub was : Joined (Torn D) (torn b)
    pub joins : JoinsUp b r components progresses was
    pub now : Joined (Torn D) (torn b)
    pub is : now.world ≡ new
    pub fails : FailsToFinish r was now before after why

  -- the threads came to nothing, and nothing was printed
  pub record IsRefused (r : RunTexts) (disks : List D) (back : Option (List D)) (before after : K) (why : Why) : Type 0 where
    pub refused : ThreadsRefused D (Torn D) (torn b)
    pub fails : FailsToRun b r.program r.fingerprint disks refused
    pub told : IsUnthreaded r refused back why
    pub silent : after ≡ before

  -- Memory was wanting, and nothing was printed: before a thread was started, with all disks handed back, or behind the joins.
  pub record IsUntried (disks : List D) (back : Option (List D)) (before after : K) (why : Why) : Type 0 where
    pub memory : why ≡ Memory
    pub all : IfSome back (λ xs. xs ≡ disks)
    pub silent : after ≡ before

  -- the disks below the world at the end are handed back
  pub record EndsIn (Ran : World (Torn D) (torn b) → Type 0) (back : Option (List D)) : Type 0 where
    pub new : World (Torn D) (torn b)
    pub ran : Ran new
    pub is : List D
    pub some : back ≡ Some is
    pub under : is ≡ disks_under (components_of new)

  -- a live run over the disks of the components
  abbrev pub LivesOver : RunTexts → List D → Option (List D) → K → K → Result Unit Why → Type 0
  LivesOver r disks back before after (Ok _) = EndsIn (LivesIn r disks before after) back
  LivesOver r disks back before after (Err why) = IsUntried disks back before after why ⊎ (IsRefused r disks back before after why ⊎ EndsIn (λ new. LivesShort r disks before after new why) back)

  -- the status is 0 just behind a whole run; else it is the cause's, behind its last line
  abbrev pub IsToldBy : RunTexts → Result Unit Why → K → K → ℕ → Type 0
  IsToldBy r (Ok _) mid after status = (status ≡ 0) × (after ≡ mid)
  IsToldBy r (Err why) mid after status = EndsAs k (codes "iclive") (Some r.program) why mid after status

  -- A live run of a call by its status: 0 where all was done and printed; else it is told why not, as its last line says.
  pub record LivesAs (r : RunTexts) (disks now : List D) (before after : K) (status : ℕ) : Type 0 where
    pub back : Option (List D)
    pub mid : K
    pub result : Result Unit Why
    pub lives : LivesOver r (lent r.program.components disks) back before mid result
    pub places : now ≡ put_in r.program (left_over r.program.components disks) back
    pub ends : IsToldBy r result mid after status

  abbrev pub Lives : RunTexts → List D → List D → K → K → ℕ → Type 0
  Lives r disks now before after status = ((status ≡ 12) × (now ≡ disks) × (after ≡ before)) ⊎ LivesAs r disks now before after status
