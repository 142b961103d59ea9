-- What it comes to that a component that is down recovers.
use Rattle.std.specs.Prelude.{◌≡◌, ◌⊎◌, ℕ, Bool, true, false, List, Option, Some, Result, Ok, Err}
use Rattle.ic_base.specs.declared.events.Stop.{Stop}
use Rattle.def_log.specs.Frame.{fingerprint_in, owner_in, IsForeign}
use Rattle.def_two.specs.Chief.{nothing_heard}
use Rattle.def_two.specs.Logs.{log2_of}
use Rattle.def_two.specs.Moves.{Openings}
use Rattle.def_two.specs.Refusals.{misfit2}
use Rattle.def_two.specs.World.{is_reached, is_log}
use Rattle.ic_disk.specs.TornDisks.{Torn}
use Rattle.ic_disk.specs.declared.disk.Disk.{Ghosts}
use Rattle.ic_gate.specs.Refusals.{IsNotForeign}
use Rattle.ic_gate.specs.declared.refusals.LoadRefused.{LoadRefused}
use Rattle.ic_gate.specs.declared.refusals.LoadWhy.{LoadWhy}
use Rattle.ic_gate.specs.declared.refusals.LoadWhy.TheVariants as load
use Rattle.ic_two.specs.Loading.{bad_place}
use Rattle.ic_seat.specs.Seats.{site_of, heard_in, disk_in, is_open, is_up, IsSeatOf, Stands, HoldsLog}
use Rattle.ic_disk.specs.Torns.{torn, file, HasFault}
use Rattle.ic_seat.specs.declared.call.SeatRefused.{SeatRefused}
use Rattle.ic_seat.specs.declared.call.SeatRefused.TheVariants.{Full, Bad, Foreign, Failed, Memory}
use Rattle.ic_seat.specs.declared.seat.Seat.{Seat}

-- the disk stands stopped
abbrev pub is_halt : LoadWhy → Bool
is_halt (load.Bad place) = false
is_halt (load.Foreign kept) = false
is_halt load.Failed = false
is_halt load.Stopped = true
is_halt load.Memory = false

abbrev pub disk_loaded : {D : Type 0} {d : Ghosts D} → Result (Seat D d) (LoadRefused D) → D
disk_loaded (Ok x) = disk_in x
disk_loaded (Err refused) = refused.disk

module _ {D : Type 0} (d : Ghosts D) where
  -- the chief or the book that the log on the disk stands for, which heard nothing yet; the file isn't changed
  pub record ComesUp (openings : Openings) (c : ℕ) (old : D) (fingerprint : List ℕ) (new : Seat D d) : Type 0 where
    pub up : is_up new ≡ true
    pub good : is_log openings c (site_of new).log ≡ true
    pub heard : heard_in new ≡ nothing_heard
    pub read : d.tells old → log2_of (d.seen old) ≡ Ok (site_of new).log
    pub own : d.tells old → fingerprint_in (d.seen old) ≡ fingerprint
    pub owned : d.tells old → owner_in (d.seen old) ≡ c
    pub bytes : d.tells old → d.seen (disk_in new) ≡ d.seen old
    pub stays_open : is_open new ≡ true
    pub settled : d.settled (disk_in new) ≡ true
    pub seated : IsSeatOf openings c new

module _ {D : Type 0} (b : Ghosts D) where
  -- it is up with the records that its disk reads, and its stop isn't reached within the load
  pub record IsRecovered (openings : Openings) (c : ℕ) (print : List ℕ) (old : Seat (Torn D) (torn b)) (stop : Option Stop) (new : Seat (Torn D) (torn b)) : Type 0 where
    pub was_down : is_up old ≡ false
    pub unreached : is_reached stop 3 ≡ false
    pub up : is_up new ≡ true
    pub good : is_log openings c (site_of new).log ≡ true
    pub heard : heard_in new ≡ nothing_heard
    pub read : b.tells (disk_in old).inner → log2_of (file b (disk_in old)) ≡ Ok (site_of new).log
    pub own : b.tells (disk_in old).inner → fingerprint_in (file b (disk_in old)) ≡ print
    pub owned : b.tells (disk_in old).inner → owner_in (file b (disk_in old)) ≡ c
    pub same : b.tells (disk_in old).inner → file b (disk_in new) ≡ file b (disk_in old)

  -- its stop is reached within the load: it stays down, and its file stays
  pub record IsCutInLoad (old : Seat (Torn D) (torn b)) (stop : Option Stop) (new : Seat (Torn D) (torn b)) : Type 0 where
    pub was_down : is_up old ≡ false
    pub reached : is_reached stop 3 ≡ true
    pub down : is_up new ≡ false
    pub heard : heard_in new ≡ nothing_heard
    pub same : b.tells (disk_in old).inner → file b (disk_in new) ≡ file b (disk_in old)
    pub log : b.tells (disk_in old).inner → (site_of new).log ≡ (site_of old).log

  -- nothing happens to one that is up
  pub record IsUpAlready (old new : Seat (Torn D) (torn b)) : Type 0 where
    pub was_up : is_up old ≡ true
    pub same : new ≡ old

  pub record Recovers (openings : Openings) (c : ℕ) (print : List ℕ) (old : Seat (Torn D) (torn b)) (stop : Option Stop) (new : Seat (Torn D) (torn b)) : Type 0 where
    pub ends : IsRecovered openings c print old stop new ⊎ IsCutInLoad old stop new ⊎ IsUpAlready old new
    pub stands : Stands (torn b) new
    pub holds : HoldsLog (torn b) print c old → HoldsLog (torn b) print c new
    pub seated : IsSeatOf openings c old → IsSeatOf openings c new

  -- why its log gives no component, with what is left of its disk, which reads as before where it works
  abbrev pub FailsToLoad : Openings → ℕ → List ℕ → Torn D → Torn D → SeatRefused → Type 0
  FailsToLoad openings c print old new Full = ⊥
  FailsToLoad openings c print old new (Bad place) = b.tells old.inner → (bad_place (misfit2 openings c) c (file b old) ≡ Some place) × IsNotForeign print (file b old) × (file b new ≡ file b old)
  FailsToLoad openings c print old new (Foreign kept) = b.tells old.inner → IsForeign print (file b old) kept × (file b new ≡ file b old)
  FailsToLoad openings c print old new Failed = HasFault b old new
  FailsToLoad openings c print old new Memory = b.tells old.inner → file b new ≡ file b old

  -- why it doesn't recover
  pub record FailsToRecover (openings : Openings) (c : ℕ) (print : List ℕ) (old : Seat (Torn D) (torn b)) (new : Seat (Torn D) (torn b)) (why : SeatRefused) : Type 0 where
    pub was_down : is_up old ≡ false
    pub fails : FailsToLoad openings c print (disk_in old) (disk_in new) why
