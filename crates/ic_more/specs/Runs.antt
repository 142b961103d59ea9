-- What a run of a script over the disks of its components comes to: its status, what it prints, and what the disks then hold.
use Rattle.std.specs.Prelude.{◌≡◌, ◌⊎◌, ⊤, ℕ, List, [], ◌∷◌, Some, Result, Ok, Err, slice_get}
use Rattle.def_two.specs.declared.script.Event2.{Event2}
use Rattle.def_two.specs.declared.script.TwoRefused.{TwoRefused}
use Rattle.def_two.specs.declared.script.TwoRefused.TheVariants.{Failed}
use Rattle.def_two.specs.declared.script.TwoWhy.{TwoWhy}
use Rattle.def_two.specs.Both.{IsBothOrNeither}
use Rattle.def_two.specs.CoreSteps.{SystemState2, SystemStep, IsStarted2, Executes2, last_state2}
use Rattle.def_two.specs.Printed.{two_lines}
use Rattle.def_two.specs.Refusals.{IsRefused2}
use Rattle.def_two.specs.Runs.{next2}
use Rattle.def_two.specs.Script.{TheScript, openings_of}
use Rattle.def_two.specs.World.{IsSettled2, first_world2}
use Rattle.ic_disk.specs.declared.disk.Disk as disk
use Rattle.ic_disk.specs.declared.sink.Sink as sink
use Rattle.ic_report.specs.Outputs.{Puts, FailsToPut}
use Rattle.ic_two_world.specs.Executing.{Follows2}
use Rattle.ic_two_world.specs.Stepping.{IsOfEvent}
use Rattle.ic_two_world.specs.Opening.{AllTell, AllKeep, AreKept, HasFailed, IsNotStarted, files_on}
use Rattle.ic_more.specs.Ends.{EndsWith, why_of_start, why_of_step}
use Rattle.ic_more.specs.declared.ending.Why2.{Why2}
use Rattle.ic_more.specs.declared.ending.Why2.TheVariants.{Memory}

-- the disks tell their bytes and keep the disk model
abbrev pub AreSound : {D : Type 0} → disk.Ghosts D → List D → Type 0
AreSound b disks = AllTell b disks × AllKeep b disks

module _ {D : Type 0} (b : disk.Ghosts D) (s : TheScript) (print : List ℕ) (disks : List D) where
  -- A run came through these steps, with these events of the script left: it began with all up, and each step is of the event that is next
  -- and leads to the world of the definition, given what its disk decided. Over sound disks it began on blank ones and is an execution.
  pub record CameTo (p : SystemState2) (steps : List SystemStep) (rest : List Event2) : Type 0 where
    pub world : p.world ≡ first_world2 (openings_of s)
    pub follows : Follows2 (openings_of s) s.events p.world steps rest
    pub started : AllTell b disks → IsStarted2 (openings_of s) print (files_on b disks) p
    pub executes : AreSound b disks → Executes2 (openings_of s) print s.events p steps rest

module _ {D : Type 0} (b : disk.Ghosts D) (s : TheScript) (print : List ℕ) (disks now : List D) where
  -- All events of the script were done, and then those that settle until nothing was left. What is printed of it are these lines; over
  -- sound disks it is both books or neither.
  pub record IsCompleted (lines : List ℕ) : Type 0 where
    pub p : SystemState2
    pub steps : List SystemStep
    pub came : CameTo b s print disks p steps []
    pub settled : IsSettled2 (last_state2 p steps).world
    pub printed : lines ≡ two_lines s (last_state2 p steps).world
    pub both : AreSound b disks → IsBothOrNeither s print (files_on b disks) (files_on b now) lines

  -- the disk of the component that failed has failed, or stands stopped
  abbrev pub IsFault : TwoRefused → Type 0
  IsFault (Failed c) = (old : D) × (new : D) × (slice_get disks c ≡ Some old) × (slice_get now c ≡ Some new) × HasFailed b old new
  IsFault why = ⊤

  -- an event wasn't done, which was next behind these steps; and why
  pub record IsRefused (why : TwoRefused) : Type 0 where
    pub p : SystemState2
    pub steps : List SystemStep
    pub rest : List Event2
    pub came : CameTo b s print disks p steps rest
    pub event : Event2
    pub more : List Event2
    pub next : next2 (last_state2 p steps).world rest ≡ Some (record { event = event; rest = more })
    pub cause : AreSound b disks → IsRefused2 (openings_of s) print (last_state2 p steps) event why
    pub fault : IsFault why
    pub of_event : IsOfEvent (last_state2 p steps).world event.what why

  -- no world begins
  pub record NeverBegan (why : Why2) : Type 0 where
    pub start : TwoWhy
    pub is : why ≡ why_of_start start
    pub cause : IsNotStarted b disks now start

  -- an event wasn't done
  pub record WentNoFurther (why : Why2) : Type 0 where
    pub step : TwoRefused
    pub is : why ≡ why_of_step print step
    pub refused : IsRefused step

  -- all was done, and memory was wanting for what is printed of it
  pub record WasUntold (why : Why2) : Type 0 where
    pub lines : List ℕ
    pub is : why ≡ Memory
    pub completed : IsCompleted lines

  -- what a run comes to before anything is printed
  abbrev pub ComesTo : Result (List ℕ) Why2 → Type 0
  ComesTo (Ok lines) = IsCompleted lines
  ComesTo (Err why) = NeverBegan why ⊎ (WentNoFurther why ⊎ WasUntold why)

  pub record RunsOver (result : Result (List ℕ) Why2) : Type 0 where
    pub kept : AreKept b disks now
    pub comes : ComesTo result

  module _ {K : Type 0} (k : sink.Ghosts K) (before after : K) (status : ℕ) where
    -- all was done: its lines are printed with status 0, or the output failed within them
    pub record EndsDone : Type 0 where
      pub lines : List ℕ
      pub completed : IsCompleted lines
      pub ends : ((status ≡ 0) × Puts k (lines ∷ []) before after) ⊎ ((status ≡ 9) × FailsToPut k (lines ∷ []) before after)

    -- it ended before its end, for this cause
    pub record EndsShort : Type 0 where
      pub why : Why2
      pub comes : NeverBegan why ⊎ (WentNoFurther why ⊎ WasUntold why)
      pub ends : EndsWith k (Some s) why before after status

    -- a run of a script over disks, by its status
    abbrev pub Runs : Type 0
    Runs = EndsDone ⊎ EndsShort
