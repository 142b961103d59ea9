-- What contracts see of a chief, and what its calls come to.
use Rattle.std.specs.Prelude.{◌≡◌, ◌⊎◌, ℕ, Bool, true, false, ◌||◌, List, [], ◌++◌, Some, Result, Ok, Err}
use Rattle.def_log.specs.Changes.{IsOfSame}
use Rattle.def_log.specs.Frame.{fingerprint_in, owner_in}
use Rattle.def_log.specs.Sizes.{size_in}
use Rattle.def_two.specs.declared.moves.Packet2.{Packet2}
use Rattle.def_two.specs.declared.moves.Record2.{Record2}
use Rattle.def_two.specs.declared.states.Docket.{Docket}
use Rattle.def_two.specs.declared.states.Heard.{Heard}
use Rattle.def_two.specs.Moves.{Openings}
use Rattle.def_two.specs.Chief.{Call, Step, docket_of, is_chief_log, chief_step, nothing_heard}
use Rattle.def_two.specs.Records.{payload2_of}
use Rattle.def_two.specs.Logs.{log2_of}
use Rattle.def_two.specs.CoreSteps.{has_no_room2, is_past_number}
use Rattle.ic_disk.specs.Causes.{Rose}
use Rattle.ic_disk.specs.Disk.{Keeps}
use Rattle.ic_disk.specs.Stops.{DeviceCall}
use Rattle.ic_disk.specs.declared.disk.Disk.{Ghosts}
use Rattle.ic_gate.specs.Calls.{gated_calls, force_writes}
use Rattle.ic_gate.specs.Logs as logs
use Rattle.ic_gate.specs.declared.log.Log.{Log}
use Rattle.ic_gate.specs.declared.refusals.LoadRefused.{LoadRefused}
use Rattle.ic_gate.specs.declared.refusals.StepRefused.{StepRefused}
use Rattle.ic_gate.specs.declared.refusals.StepRefused.TheVariants.{Failed, Stopped, Full, Memory}
use Rattle.ic_moves.specs.Chiefs as cores
use Rattle.ic_two.specs.Views as views
use Rattle.ic_two.specs.Books.{size_with}
use Rattle.ic_two.specs.declared.chief.Chief.{Chief}

-- its records, all of which stand in the file
abbrev pub records_of : {D : Type 0} {b : _} → Chief D b → List Record2
records_of x = views.records_of x.log

abbrev pub disk_of : {D : Type 0} {b : _} → Chief D b → D
disk_of x = views.disk_of x.log

abbrev pub size_of : {D : Type 0} {b : _} → Chief D b → ℕ
size_of x = views.size_of x.log

abbrev pub is_closed : {D : Type 0} {b : _} → Chief D b → Bool
is_closed x = views.is_closed x.log

-- what it heard in its present life
abbrev pub heard_of : {D : Type 0} {b : _} → Chief D b → Heard
heard_of x = cores.heard_of x.core

-- what its log gives
abbrev pub docket_in : {D : Type 0} {b : _} → Chief D b → Docket
docket_in x = docket_of (records_of x)

module _ {D : Type 0} {d : Ghosts D} where
  -- the step that the definition makes of a call
  abbrev pub step_of : Chief D d → Call → Step
  step_of x call = chief_step (docket_in x) (heard_of x) call

  -- the device calls of the step: those of one force of its record, if there is one
  abbrev pub calls_of : Chief D d → Call → List DeviceCall
  calls_of x call = gated_calls (force_writes (size_of x) (payload2_of (step_of x call).adds))

  -- the same chief with the same records, in a log of the same size, which is closed just if it was
  pub record IsSame (old new : Chief D d) : Type 0 where
    pub heard : heard_of new ≡ heard_of old
    pub log : views.IsSame old.log new.log

  -- the first chief, over this log
  pub record Starts (on : Log D d) (new : Chief D d) : Type 0 where
    pub records : records_of new ≡ []
    pub heard : heard_of new ≡ nothing_heard
    pub disk : disk_of new ≡ logs.disk_of on
    pub size : size_of new ≡ logs.size_of on
    pub is_open : is_closed new ≡ false

  -- the step would pass the limit of the log or of a number
  abbrev pub IsFull : Chief D d → Call → Bool → Type 0
  IsFull x call is = (is_past_number call || has_no_room2 (size_of x) (step_of x call).adds) ≡ is

  -- the packets and the records are those of the step; its record is forced, and behind that it heard what the step says
  pub record Serves (old : Chief D d) (call : Call) (new : Chief D d) (out : List Packet2) : Type 0 where
    pub records : records_of new ≡ records_of old ++ (step_of old call).adds
    pub heard : heard_of new ≡ (step_of old call).heard
    pub puts : out ≡ (step_of old call).puts
    pub room : IsFull old call false
    pub size : size_of new ≡ size_with (size_of old) (step_of old call).adds
    pub is_open : is_closed new ≡ false

  -- It is kept with its disk. While it is open the file is the log of its records, and that of the same component.
  pub record KeepsLog (old new : Chief D d) : Type 0 where
    pub disk : Keeps d (disk_of old) (disk_of new)
    pub log : d.tells (disk_of old) → is_closed new ≡ false → log2_of (d.seen (disk_of new)) ≡ Ok (records_of new)
    pub whose : d.tells (disk_of old) → is_closed new ≡ false → IsOfSame (d.seen (disk_of old)) (d.seen (disk_of new))

  -- the chief is as it was, and so is its file
  pub record IsUnmoved (old new : Chief D d) : Type 0 where
    pub records : records_of new ≡ records_of old
    pub heard : heard_of new ≡ heard_of old
    pub size : size_of new ≡ size_of old
    pub bytes : d.tells (disk_of old) → d.seen (disk_of new) ≡ d.seen (disk_of old)
    pub is_open : is_closed new ≡ false

  -- why a call isn't carried out, and what then stands
  abbrev pub FailsToServe : Chief D d → Call → Chief D d → StepRefused → Type 0
  FailsToServe old call new Failed = (is_closed new ≡ true) × Rose (d.faults (disk_of old)) (d.faults (disk_of new))
  FailsToServe old call new Stopped = (is_closed new ≡ true) × d.stopped (disk_of new) × IsFull old call false
  FailsToServe old call new Full = IsUnmoved old new × IsFull old call true
  FailsToServe old call new Memory = IsUnmoved old new

  -- the file holds the old records, or these and that of the step, and is that of the same component
  abbrev pub IsBeforeOrServed : Chief D d → Call → List ℕ → Type 0
  IsBeforeOrServed old call image = IsOfSame (d.seen (disk_of old)) image
      × ((log2_of image ≡ Ok (records_of old)) ⊎ (log2_of image ≡ Ok (records_of old ++ (step_of old call).adds)))

  -- a word is heard, and the log stays
  pub record HearsOnly (old : Chief D d) (now : Heard) (new : Chief D d) : Type 0 where
    pub heard : heard_of new ≡ now
    pub records : records_of new ≡ records_of old
    pub disk : disk_of new ≡ disk_of old
    pub size : size_of new ≡ size_of old
    pub closed : is_closed new ≡ is_closed old

-- its disk, which is handed back where there is no chief
abbrev pub disk_left : {D : Type 0} {b : _} → Result (Chief D b) (LoadRefused D) → D
disk_left (Ok x) = disk_of x
disk_left (Err refused) = refused.disk

module _ {D : Type 0} (d : Ghosts D) where
  -- the chief of these books that the log on the disk stands for, which heard nothing yet; the file isn't changed
  pub record ComesUp (books : Openings) (old : D) (fingerprint : List ℕ) (new : Chief D d) : Type 0 where
    pub good : is_chief_log books (records_of new) ≡ true
    pub heard : heard_of new ≡ nothing_heard
    pub read : d.tells old → log2_of (d.seen old) ≡ Ok (records_of new)
    pub own : d.tells old → fingerprint_in (d.seen old) ≡ fingerprint
    pub owned : d.tells old → owner_in (d.seen old) ≡ 0
    pub bytes : d.tells old → d.seen (disk_of new) ≡ d.seen old
    pub sized : d.tells old → size_in (d.seen old) ≡ Some (size_of new)
    pub is_open : is_closed new ≡ false
