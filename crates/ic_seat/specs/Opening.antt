-- What a component of moves is at the beginning of a run, over a log without a record, and why there is none.
use Rattle.std.specs.Prelude.{◌≡◌, ℕ, true, false, List, []}
use Rattle.def_log.specs.Frame as frames
use Rattle.def_log.specs.Images.{LeavesJust}
use Rattle.def_two.specs.Chief.{nothing_heard}
use Rattle.def_two.specs.Moves.{Openings}
use Rattle.ic_disk.specs.Causes.{Rose}
use Rattle.ic_disk.specs.TornDisks.{Torn}
use Rattle.ic_disk.specs.declared.disk.Disk.{Ghosts}
use Rattle.ic_gate.specs.Logs as logs
use Rattle.ic_gate.specs.declared.log.Log.{Log}
use Rattle.ic_gate.specs.declared.refusals.LoadRefused.{LoadRefused}
use Rattle.ic_gate.specs.declared.refusals.LoadWhy.{LoadWhy}
use Rattle.ic_gate.specs.declared.refusals.LoadWhy.TheVariants.{Bad, Foreign, Failed, Stopped, Memory}
use Rattle.ic_seat.specs.Seats.{site_of, heard_in, disk_in, is_open, is_up, IsSeatOf, Stands}
use Rattle.ic_disk.specs.Torns.{torn, file}
use Rattle.ic_seat.specs.declared.seat.Seat.{Seat}

module _ {D : Type 0} {d : Ghosts D} where
  -- it is up in this place, over this log
  pub record IsFirst (openings : Openings) (c : ℕ) (on : Log D d) (new : Seat D d) : Type 0 where
    pub site : site_of new ≡ record { up = true; log = [] }
    pub heard : heard_in new ≡ nothing_heard
    pub disk : disk_in new ≡ logs.disk_of on
    pub stays_open : is_open new ≡ true
    pub seated : IsSeatOf openings c new

module _ {D : Type 0} (d : Ghosts D) where
  -- it is up in this place, and its file is a log of no batches, of which a crash leaves just that
  pub record IsMade (openings : Openings) (c : ℕ) (print : List ℕ) (old : D) (new : Seat D d) : Type 0 where
    pub site : site_of new ≡ record { up = true; log = [] }
    pub heard : heard_in new ≡ nothing_heard
    pub stays_open : is_open new ≡ true
    pub seated : IsSeatOf openings c new
    pub settled : d.settled (disk_in new) ≡ true
    pub fresh : d.tells old → d.seen (disk_in new) ≡ frames.fresh print c
    pub leaves : d.keeps old → LeavesJust (d.may_leave (disk_in new)) (frames.fresh print c)

  -- why no log is made
  abbrev pub fails_by : D → D → LoadWhy → Type 0
  fails_by old new (Bad place) = ⊥
  fails_by old new (Foreign kept) = ⊥
  fails_by old new Failed = Rose (d.faults old) (d.faults new)
  fails_by old new Stopped = d.stopped new
  fails_by old new Memory = Unit {0}

  abbrev pub FailsToMake : D → LoadRefused D → Type 0
  FailsToMake old refused = fails_by old refused.disk refused.why

module _ {D : Type 0} (b : Ghosts D) where
  -- it is down on this disk, which works and holds nothing
  pub record IsOn (disk : D) (new : Seat (Torn D) (torn b)) : Type 0 where
    pub inner : (disk_in new).inner ≡ disk
    pub down : is_up new ≡ false
    pub stands : Stands (torn b) new

  -- it is up in this place, and its file is a log of no batches, of which a crash leaves just that
  pub record Starts (openings : Openings) (c : ℕ) (print : List ℕ) (old new : Seat (Torn D) (torn b)) : Type 0 where
    pub site : site_of new ≡ record { up = true; log = [] }
    pub heard : heard_in new ≡ nothing_heard
    pub stands : Stands (torn b) new
    pub seated : IsSeatOf openings c new
    pub fresh : b.tells (disk_in old).inner → file b (disk_in new) ≡ frames.fresh print c
    pub leaves : b.keeps (disk_in old).inner → LeavesJust ((torn b).may_leave (disk_in new)) (frames.fresh print c)

  -- why it doesn't come up
  abbrev pub FailsToStart : Seat (Torn D) (torn b) → Seat (Torn D) (torn b) → LoadWhy → Type 0
  FailsToStart old new (Bad place) = ⊥
  FailsToStart old new (Foreign kept) = ⊥
  FailsToStart old new Failed = Rose (b.faults (disk_in old).inner) (b.faults (disk_in new).inner)
  FailsToStart old new Stopped = b.stopped (disk_in new).inner
  FailsToStart old new Memory = Unit {0}
