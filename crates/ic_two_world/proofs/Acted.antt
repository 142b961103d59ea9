-- A component that makes its call in its place, and what is put out.
use Rattle.std.proofs.Common.{◌≡◌, inl, inr, ℕ, ◌≤◌, List, length, Option, Some}
use Rattle.std.specs.Prelude.{slice_get, slice_set, Result, Ok, Err, OnOk, IfErr}
use Rattle.ic_base.specs.declared.events.Stop.{Stop}
use Rattle.ic_base.specs.declared.limits.TheConstants.{PACKETS}
use Rattle.def_two.specs.declared.moves.Packet2.{Packet2}
use Rattle.def_two.specs.declared.script.TwoRefused.{TwoRefused}
use Rattle.def_two.specs.Chief.{Call}
use Rattle.ic_disk.specs.Disk.{Keeps}
use Rattle.ic_disk.specs.TornDisks.{Torn}
use Rattle.ic_disk.specs.declared.disk.Disk.{Ghosts}
use Rattle.ic_moves.specs.Networks.{Network, with_puts}
use Rattle.ic_seat.specs.Seats.{disk_in}
use Rattle.ic_seat.specs.Serving.{Serves, FailsToServe}
use Rattle.ic_disk.specs.Torns.{torn}
use Rattle.ic_seat.specs.declared.call.SeatRefused.{SeatRefused}
use Rattle.ic_seat.specs.declared.seat.Seat.{Seat}
use Rattle.ic_two_world.specs.Acting.{refusal_of, CannotPut, Turns, Acts, FailsToAct}

module _ {D : Type 0} (b : Ghosts D) (xs : List (Seat (Torn D) (torn b))) (n : Network) (c : ℕ) (stop : Option Stop) (call : Call) (x y : Seat (Torn D) (torn b)) (at : slice_get xs c ≡ Some x)
    (ys : List (Seat (Torn D) (torn b))) (set : ys ≡ slice_set xs c y) (disk : Keeps (torn b) (disk_in x) (disk_in y)) where
  abbrev turned : Turns b xs c ys
  turned = record { before = x; now = y; at = at; set = set; disk = disk }

  pub acts-put : {T : Type 0} (r : Result T TwoRefused) (puts : List Packet2) (m : Network) → Serves b x stop call y puts → OnOk r (m ≡ with_puts n puts) → OnOk r (length m.packets ≤ PACKETS) → OnOk r (Acts b xs n c stop call ys m)
  acts-put (Ok u) puts m serves put few = inl (record { turns = turned; puts = puts; serves = serves; network = put; few = few })
  acts-put (Err why) puts m serves put few = tt

  pub fails-put : {T : Type 0} (r : Result T TwoRefused) (puts : List Packet2) → Serves b x stop call y puts → IfErr r (CannotPut n puts) → IfErr r (FailsToAct b xs n c stop call ys)
  fails-put (Ok u) puts serves cannot = tt
  fails-put (Err why) puts serves cannot = record { turns = turned; because = inr (record { puts = puts; serves = serves; cannot = cannot }) }

  pub fails-served : (own : SeatRefused) (why : TwoRefused) → why ≡ refusal_of c own → FailsToServe b x call y own → FailsToAct b xs n c stop call ys why
  fails-served own why is fails = record { turns = turned; because = inl (record { own = own; is = is; fails = fails }) }
