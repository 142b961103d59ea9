-- What an event comes to at its component, and what the network then has.
use Rattle.std.specs.Prelude.{◌≡◌, ◌⊎◌, ℕ, ◌+◌, ◌<◌, ◌≤◌, true, false, List, length, Option, Some, None, slice_get, slice_set}
use Rattle.ic_base.specs.declared.events.Stop.{Stop}
use Rattle.ic_base.specs.declared.limits.TheConstants.{PACKETS}
use Rattle.def_two.specs.declared.moves.Packet2.{Packet2}
use Rattle.def_two.specs.declared.script.TwoRefused.{TwoRefused}
use Rattle.def_two.specs.declared.script.TwoRefused.TheVariants as refused
use Rattle.def_two.specs.Chief.{Call, nothing_heard}
use Rattle.def_two.specs.Moves.{Openings}
use Rattle.ic_disk.specs.Disk.{Keeps}
use Rattle.ic_disk.specs.TornDisks.{Torn}
use Rattle.ic_disk.specs.declared.disk.Disk.{Ghosts}
use Rattle.ic_moves.specs.Networks.{Network, with_puts}
use Rattle.ic_seat.specs.Recovering.{Recovers, FailsToRecover}
use Rattle.ic_seat.specs.Seats.{site_of, heard_in, disk_in, is_open}
use Rattle.ic_seat.specs.Serving.{Serves, FailsToServe}
use Rattle.ic_disk.specs.Torns.{torn}
use Rattle.ic_seat.specs.declared.call.SeatRefused.{SeatRefused}
use Rattle.ic_seat.specs.declared.call.SeatRefused.TheVariants.{Full, Bad, Foreign, Failed, Memory}
use Rattle.ic_seat.specs.declared.seat.Seat.{Seat}

-- a refusal of a component as one of the world
abbrev pub refusal_of : ℕ → SeatRefused → TwoRefused
refusal_of c Full = refused.LogFull c
refusal_of c (Bad place) = refused.Bad c place
refusal_of c (Foreign kept) = refused.Foreign c kept
refusal_of c Failed = refused.Failed c
refusal_of c Memory = refused.Memory

-- why packets aren't put out: they would pass their number, or memory is wanting
abbrev pub CannotPut : Network → List Packet2 → TwoRefused → Type 0
CannotPut n puts refused.Packets = PACKETS < length n.packets + length puts
CannotPut n puts refused.Memory = Unit {0}
CannotPut n puts (refused.LogFull c) = ⊥
CannotPut n puts (refused.Bad c place) = ⊥
CannotPut n puts (refused.Failed c) = ⊥
CannotPut n puts (refused.Foreign c kept) = ⊥

module _ {D : Type 0} (b : Ghosts D) where
  -- the component in this place is another one, on the same disk
  pub record Turns (xs : List (Seat (Torn D) (torn b))) (c : ℕ) (ys : List (Seat (Torn D) (torn b))) : Type 0 where
    pub before : Seat (Torn D) (torn b)
    pub now : Seat (Torn D) (torn b)
    pub at : slice_get xs c ≡ Some before
    pub set : ys ≡ slice_set xs c now
    pub disk : Keeps (torn b) (disk_in before) (disk_in now)

  -- the component makes a call, and what it answers is put out
  pub record ActsThere (xs : List (Seat (Torn D) (torn b))) (n : Network) (c : ℕ) (stop : Option Stop) (call : Call) (ys : List (Seat (Torn D) (torn b))) (m : Network) : Type 0 where
    pub turns : Turns xs c ys
    pub puts : List Packet2
    pub serves : Serves b turns.before stop call turns.now puts
    pub network : m ≡ with_puts n puts
    pub few : length m.packets ≤ PACKETS

  -- no component is in this place
  pub record IsNowhere (xs : List (Seat (Torn D) (torn b))) (n : Network) (c : ℕ) (ys : List (Seat (Torn D) (torn b))) (m : Network) : Type 0 where
    pub none : slice_get xs c ≡ None
    pub seats : ys ≡ xs
    pub network : m ≡ n

  abbrev pub Acts : List (Seat (Torn D) (torn b)) → Network → ℕ → Option Stop → Call → List (Seat (Torn D) (torn b)) → Network → Type 0
  Acts xs n c stop call ys m = ActsThere xs n c stop call ys m ⊎ IsNowhere xs n c ys m

  -- the component doesn't make the call, or what it answers can't be put out
  pub record IsNotServed (before : Seat (Torn D) (torn b)) (c : ℕ) (call : Call) (now : Seat (Torn D) (torn b)) (why : TwoRefused) : Type 0 where
    pub own : SeatRefused
    pub is : why ≡ refusal_of c own
    pub fails : FailsToServe b before call now own

  pub record IsNotPut (before : Seat (Torn D) (torn b)) (n : Network) (stop : Option Stop) (call : Call) (now : Seat (Torn D) (torn b)) (why : TwoRefused) : Type 0 where
    pub puts : List Packet2
    pub serves : Serves b before stop call now puts
    pub cannot : CannotPut n puts why

  pub record FailsToAct (xs : List (Seat (Torn D) (torn b))) (n : Network) (c : ℕ) (stop : Option Stop) (call : Call) (ys : List (Seat (Torn D) (torn b))) (why : TwoRefused) : Type 0 where
    pub turns : Turns xs c ys
    pub because : IsNotServed turns.before c call turns.now why ⊎ IsNotPut turns.before n stop call turns.now why

  -- the component comes up from its log
  pub record ComesUpThere (openings : Openings) (print : List ℕ) (xs : List (Seat (Torn D) (torn b))) (c : ℕ) (stop : Option Stop) (ys : List (Seat (Torn D) (torn b))) : Type 0 where
    pub turns : Turns xs c ys
    pub recovers : Recovers b openings c print turns.before stop turns.now

  pub record FailsToComeUp (openings : Openings) (print : List ℕ) (xs : List (Seat (Torn D) (torn b))) (c : ℕ) (ys : List (Seat (Torn D) (torn b))) (why : TwoRefused) : Type 0 where
    pub turns : Turns xs c ys
    pub own : SeatRefused
    pub is : why ≡ refusal_of c own
    pub fails : FailsToRecover b openings c print turns.before turns.now own

  -- it is down, with the records that its disk held; nothing else is left
  pub record GoesDown (old new : Seat (Torn D) (torn b)) : Type 0 where
    pub disk : disk_in new ≡ disk_in old
    pub site : site_of new ≡ record { up = false; log = (site_of old).log }
    pub heard : heard_in new ≡ nothing_heard
    pub is_open_still : is_open new ≡ true

  pub record GoesDownThere (xs : List (Seat (Torn D) (torn b))) (c : ℕ) (ys : List (Seat (Torn D) (torn b))) : Type 0 where
    pub before : Seat (Torn D) (torn b)
    pub now : Seat (Torn D) (torn b)
    pub at : slice_get xs c ≡ Some before
    pub set : ys ≡ slice_set xs c now
    pub gone : GoesDown before now
