-- What a call comes to at a component that is up, whichever it is, over its disk.
use Rattle.std.specs.Prelude.{◌≡◌, ◌⊎◌, ℕ, true, false, List, ◌++◌, Some, Result, Ok, Err, IfOk, IfErr, is_ok}
use Rattle.def_log.specs.Changes.{IsOfSame}
use Rattle.def_log.specs.Sizes.{size_in}
use Rattle.def_two.specs.declared.moves.Packet2.{Packet2}
use Rattle.def_two.specs.Chief.{Call}
use Rattle.def_two.specs.Logs.{log2_of}
use Rattle.def_two.specs.Moves.{Openings}
use Rattle.def_two.specs.Records.{payload2_of}
use Rattle.ic_disk.specs.Causes.{Rose}
use Rattle.ic_disk.specs.Disk.{Keeps, CrashLeaves, Makes}
use Rattle.ic_disk.specs.declared.disk.Disk.{Ghosts}
use Rattle.ic_gate.specs.Calls.{gated_calls, force_writes}
use Rattle.ic_gate.specs.declared.refusals.StepRefused.{StepRefused}
use Rattle.ic_gate.specs.declared.refusals.StepRefused.TheVariants.{Failed, Stopped, Full, Memory}
use Rattle.ic_seat.specs.Seats.{site_of, heard_in, disk_in, is_open, step_in, is_full, MayBegin, IsSeatOf}
use Rattle.ic_seat.specs.declared.seat.Seat.{Seat}

module _ {D : Type 0} {d : Ghosts D} where
  -- the file has the old records, or these and that of the step, and is that of the same component
  abbrev pub IsBeforeOrServed : Seat D d → Call → List ℕ → Type 0
  IsBeforeOrServed old call image = IsOfSame (d.seen (disk_in old)) image
      × ((log2_of image ≡ Ok (site_of old).log) ⊎ (log2_of image ≡ Ok ((site_of old).log ++ (step_in old call).adds)))

  -- the step is that of the rules, and passes no limit of a log of this size or of a number; its record is forced
  pub record IsStep (size : ℕ) (old : Seat D d) (call : Call) (new : Seat D d) (puts : List Packet2) : Type 0 where
    pub site : site_of new ≡ record { up = true; log = (site_of old).log ++ (step_in old call).adds }
    pub heard : heard_in new ≡ (step_in old call).heard
    pub puts_out : puts ≡ (step_in old call).puts
    pub room : is_full size old call ≡ false
    pub stays_open : is_open new ≡ true
    pub seated : (openings : Openings) (c : ℕ) → IsSeatOf openings c old → IsSeatOf openings c new
    pub log : d.tells (disk_in old) → log2_of (d.seen (disk_in new)) ≡ Ok (site_of new).log
    pub whose : d.tells (disk_in old) → IsOfSame (d.seen (disk_in old)) (d.seen (disk_in new))
    pub settled : d.settled (disk_in new) ≡ true

  -- its file isn't changed
  abbrev pub KeepsFile : Seat D d → Seat D d → Type 0
  KeepsFile old new = d.tells (disk_in old) → d.seen (disk_in new) ≡ d.seen (disk_in old)

  -- why it isn't made
  abbrev pub FailsToStep : ℕ → Seat D d → Call → Seat D d → StepRefused → Type 0
  FailsToStep size old call new Full = (is_full size old call ≡ true) × KeepsFile old new
  FailsToStep size old call new Memory = KeepsFile old new
  FailsToStep size old call new Failed = Rose (d.faults (disk_in old)) (d.faults (disk_in new))
  FailsToStep size old call new Stopped = d.stopped (disk_in new) × (is_full size old call ≡ false)

  -- It is made or refused. Its device calls are those of one force of its record, if there is one.
  pub record StepsOver (old : Seat D d) (call : Call) (new : Seat D d) (result : Result (List Packet2) StepRefused) : Type 0 where
    pub size : ℕ
    pub sized : d.tells (disk_in old) → size_in (d.seen (disk_in old)) ≡ Some size
    pub disk : Keeps d (disk_in old) (disk_in new)
    pub crash : CrashLeaves d (disk_in old) (disk_in new) (IsBeforeOrServed old call)
    pub calls : Makes d (gated_calls (force_writes size (payload2_of (step_in old call).adds))) (is_ok result) (result ≡ Err Failed) (disk_in old) (disk_in new)
    pub step : IfOk result (IsStep size old call new)
    pub refused : IfErr result (FailsToStep size old call new)

  -- it is as it was but for the stop of its disk
  pub record IsSameSeat (old new : Seat D d) : Type 0 where
    pub is_open_as : is_open new ≡ is_open old
    pub heard : heard_in new ≡ heard_in old
    pub seated : (openings : Openings) (c : ℕ) → IsSeatOf openings c old → IsSeatOf openings c new
    pub may : (call : Call) → MayBegin old call → MayBegin new call
    pub steps : (call : Call) → step_in new call ≡ step_in old call
    pub full : (size : ℕ) (call : Call) → is_full size new call ≡ is_full size old call
