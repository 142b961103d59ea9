-- What a call comes to at a component on whose disk a stop is set for it alone.
use Rattle.std.specs.Prelude.{◌≡◌, ◌⊎◌, ◌≤◌, ⊤, ℕ, ◌-◌, Bool, true, false, List, [], ◌∷◌, ◌++◌, MatchOption, Option, Some, None}
use Rattle.ic_base.specs.declared.events.Stop.{Stop}
use Rattle.def_log.specs.Sizes.{size_in}
use Rattle.def_log.specs.Gated.{batch_write}
use Rattle.def_log.specs.Stops.{stop_torn}
use Rattle.def_two.specs.declared.moves.Packet2.{Packet2}
use Rattle.def_two.specs.Chief.{Call, nothing_heard}
use Rattle.def_two.specs.Logs.{log2_of}
use Rattle.def_two.specs.Moves.{Openings}
use Rattle.def_two.specs.Records.{payload2_of}
use Rattle.def_two.specs.World.{device_calls, is_reached}
use Rattle.ic_disk.specs.Armings.{set_by}
use Rattle.ic_disk.specs.TornDisks.{Torn}
use Rattle.ic_disk.specs.declared.disk.Disk.{Ghosts}
use Rattle.ic_two.specs.Standing.{read_or_none}
use Rattle.ic_seat.specs.Seats.{site_of, heard_in, disk_in, is_up, step_in, is_full, IsSeatOf, Stands, HoldsLog}
use Rattle.ic_disk.specs.Torns.{torn, file, or_never, HasFault}
use Rattle.ic_seat.specs.declared.call.SeatRefused.{SeatRefused}
use Rattle.ic_seat.specs.declared.call.SeatRefused.TheVariants.{Full, Bad, Foreign, Failed, Memory}
use Rattle.ic_seat.specs.declared.seat.Seat.{Seat}
use Rattle.ic_seat.specs.declared.seat.Seat.TheVariants.{Down}

-- device calls are counted from 1
abbrev pub IsAllowed : Option Stop → Type 0
IsAllowed stop = MatchOption stop ⊤ (λ s. 1 ≤ s.call)

module _ {D : Type 0} (b : Ghosts D) where
  -- its disk reads as a log
  abbrev pub IsSized : Seat (Torn D) (torn b) → Type 0
  IsSized x = b.tells (disk_in x).inner → (size : ℕ) × (size_in (file b (disk_in x)) ≡ Some size)

  -- the limits of the log that its disk reads are passed by the step, or not
  abbrev pub FullIs : Bool → Seat (Torn D) (torn b) → Call → Type 0
  FullIs is x call = b.tells (disk_in x).inner → (size : ℕ) → size_in (file b (disk_in x)) ≡ Some size → is_full size x call ≡ is

  -- the step is made, and its stop isn't reached; where it records nothing the file stays
  pub record IsDone (old : Seat (Torn D) (torn b)) (stop : Option Stop) (call : Call) (new : Seat (Torn D) (torn b)) (puts : List Packet2) : Type 0 where
    pub was_up : is_up old ≡ true
    pub unreached : is_reached stop (device_calls (step_in old call).adds) ≡ false
    pub site : site_of new ≡ record { up = true; log = (site_of old).log ++ (step_in old call).adds }
    pub heard : heard_in new ≡ (step_in old call).heard
    pub puts_out : puts ≡ (step_in old call).puts
    pub sized : IsSized old
    pub room : FullIs false old call
    pub same : b.tells (disk_in old).inner → (step_in old call).adds ≡ [] → file b (disk_in new) ≡ file b (disk_in old)

  -- its stop is reached: it is down, its disk reads the stop's image, and nothing is put out
  pub record IsCut (old : Seat (Torn D) (torn b)) (stop : Option Stop) (call : Call) (new : Seat (Torn D) (torn b)) (puts : List Packet2) : Type 0 where
    pub was_up : is_up old ≡ true
    pub at : Stop
    pub is_stop : stop ≡ Some at
    pub reached : is_reached stop (device_calls (step_in old call).adds) ≡ true
    pub site : site_of new ≡ record { up = false; log = read_or_none (log2_of (file b (disk_in new))) }
    pub heard : heard_in new ≡ nothing_heard
    pub puts_out : puts ≡ []
    pub sized : IsSized old
    pub room : FullIs false old call
    pub image : b.tells (disk_in old).inner → (size : ℕ) → size_in (file b (disk_in old)) ≡ Some size → file b (disk_in new) ≡ stop_torn at 0 (file b (disk_in old)) (batch_write (size - 1) (payload2_of (step_in old call).adds) ∷ [])

  -- its disk, which stood stopped by its stop, is switched on with no stop that may be reached; nothing is loaded
  pub record LiesDown (old new : Seat (Torn D) (torn b)) : Type 0 where
    pub disk : Torn D
    pub is : new ≡ Down disk None
    pub inner : disk.inner ≡ (disk_in old).inner
    pub held : disk.held ≡ []
    pub runs : disk.stopped ≡ false
    pub script : disk.script ≡ Some (set_by (or_never None))

  -- nothing happens to one that is down
  pub record IsIdle (old new : Seat (Torn D) (torn b)) (puts : List Packet2) : Type 0 where
    pub was_down : is_up old ≡ false
    pub same : new ≡ old
    pub puts_out : puts ≡ []

  -- what is served; between events it stands, and over a disk that keeps the disk model it holds its log
  pub record Serves (old : Seat (Torn D) (torn b)) (stop : Option Stop) (call : Call) (new : Seat (Torn D) (torn b)) (puts : List Packet2) : Type 0 where
    pub ends : IsDone old stop call new puts ⊎ IsCut old stop call new puts ⊎ IsIdle old new puts
    pub stands : Stands (torn b) new
    pub holds : (print : List ℕ) (c : ℕ) → HoldsLog (torn b) print c old → HoldsLog (torn b) print c new
    pub seated : (openings : Openings) (c : ℕ) → IsSeatOf openings c old → IsSeatOf openings c new

  -- its disk reads as before
  abbrev pub KeepsFile : Seat (Torn D) (torn b) → Seat (Torn D) (torn b) → Type 0
  KeepsFile old new = b.tells (disk_in old).inner → file b (disk_in new) ≡ file b (disk_in old)

  -- why it isn't, with what is left of it
  abbrev pub FailsToServe : Seat (Torn D) (torn b) → Call → Seat (Torn D) (torn b) → SeatRefused → Type 0
  FailsToServe old call new Full = (is_up old ≡ true) × IsSized old × FullIs true old call × KeepsFile old new
  FailsToServe old call new (Bad place) = ⊥
  FailsToServe old call new (Foreign kept) = ⊥
  FailsToServe old call new Failed = HasFault b (disk_in old) (disk_in new)
  FailsToServe old call new Memory = KeepsFile old new
