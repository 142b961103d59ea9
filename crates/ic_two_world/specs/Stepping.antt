-- What an event comes to at a world of moves with its disks.
use Rattle.std.specs.Prelude.{◌≡◌, ◌≢◌, ◌⊎◌, ⊤, ℕ, List, map, Option, Some, None, slice_get}
use Rattle.def_two.specs.declared.script.Event2.{Event2}
use Rattle.def_two.specs.declared.script.What2.{What2}
use Rattle.def_two.specs.declared.script.TwoRefused.{TwoRefused}
use Rattle.def_two.specs.declared.script.TwoRefused.TheVariants as refused
use Rattle.def_two.specs.CoreSteps.{SystemState2, CoreStep2}
use Rattle.def_two.specs.Moves.{Openings}
use Rattle.def_two.specs.Refusals.{IsRefused2}
use Rattle.def_two.specs.Runs.{component_of}
use Rattle.def_two.specs.World.{World2, DiskOutcome2, happens2, receiver_of}
use Rattle.def_two.specs.Chief.{Hears}
use Rattle.def_two.specs.declared.moves.Packet2.{Packet2}
use Rattle.ic_base.specs.declared.events.Stop.{Stop}
use Rattle.ic_two_world.specs.Acting.{Acts, FailsToAct}
use Rattle.ic_disk.specs.TornDisks.{Torn}
use Rattle.ic_disk.specs.declared.disk.Disk.{Ghosts}
use Rattle.ic_moves.specs.Networks.{Network, without}
use Rattle.ic_seat.specs.Seats.{disk_in}
use Rattle.ic_disk.specs.Torns.{torn, HasFault}
use Rattle.ic_seat.specs.declared.seat.Seat.{Seat}
use Rattle.ic_two_world.specs.Views.{seats_of, openings_of, print_of, network_of, world_of, state_of, world_with, state_with, file_in, KeepModel, KeepsDisks, GoesOn}
use Rattle.ic_two_world.specs.declared.world.TwoWorld.{TwoWorld}

-- an event with its stop
abbrev pub with_stop : What2 → Option Stop → Event2
with_stop what stop = record { what = what; stop = stop }

-- the component whose disk failed is that of the event
abbrev pub IsOfEvent : World2 → What2 → TwoRefused → Type 0
IsOfEvent w what (refused.Failed c) = component_of w what ≡ Some c
IsOfEvent w what why = ⊤

module _ {D : Type 0} (b : Ghosts D) where
  -- On every disk the world is that of the definition, given what the disk decided; where the disks keep the disk model it is a core
  -- step, and they go on keeping it.
  pub record Leads (openings : Openings) (print : List ℕ) (xs : List (Seat (Torn D) (torn b))) (n : Network) (e : Event2) (ys : List (Seat (Torn D) (torn b))) (m : Network) : Type 0 where
    pub outcome : DiskOutcome2
    pub happens : happens2 openings (world_with xs n) e outcome ≡ Some (world_with ys m)
    pub core : KeepModel xs → CoreStep2 openings print (state_with xs n) e outcome (state_with ys m)
    pub keeps : KeepModel xs → KeepModel ys
    pub goes_on : GoesOn (torn b) openings print ys m

  -- the files are those behind the event
  pub record IsBehind (openings : Openings) (print : List ℕ) (xs : List (Seat (Torn D) (torn b))) (n : Network) (e : Event2) (ys : List (Seat (Torn D) (torn b))) : Type 0 where
    pub outcome : DiskOutcome2
    pub state : SystemState2
    pub step : CoreStep2 openings print (state_with xs n) e outcome state
    pub files : map file_in ys ≡ state.files

  abbrev pub KeepsFiles : List (Seat (Torn D) (torn b)) → List (Seat (Torn D) (torn b)) → Type 0
  KeepsFiles xs ys = map file_in ys ≡ map file_in xs

  -- What the disks read behind a refusal: as behind the event where its packets can't be numbered; so or as before where memory is wanting;
  -- else as before, unless a disk failed.
  abbrev pub LeavesFiles : Openings → List ℕ → List (Seat (Torn D) (torn b)) → Network → Event2 → List (Seat (Torn D) (torn b)) → TwoRefused → Type 0
  LeavesFiles openings print xs n e ys (refused.LogFull c) = KeepsFiles xs ys
  LeavesFiles openings print xs n e ys (refused.Bad c place) = KeepsFiles xs ys
  LeavesFiles openings print xs n e ys (refused.Foreign c kept) = KeepsFiles xs ys
  LeavesFiles openings print xs n e ys refused.Packets = IsBehind openings print xs n e ys
  LeavesFiles openings print xs n e ys refused.Memory = KeepsFiles xs ys ⊎ IsBehind openings print xs n e ys
  LeavesFiles openings print xs n e ys (refused.Failed c) = ⊤

  -- the books and the fingerprint stay
  pub record IsSameScript (old new : TwoWorld (Torn D) (torn b)) : Type 0 where
    pub books : new.books ≡ old.books
    pub print : new.fingerprint ≡ old.fingerprint

  -- the packet of a number goes to its receiver, if there is one
  abbrev pub Delivers : TwoWorld (Torn D) (torn b) → ℕ → Option Stop → Option Packet2 → TwoWorld (Torn D) (torn b) → Type 0
  Delivers old i stop None new = (seats_of new ≡ seats_of old) × (network_of new ≡ network_of old)
  Delivers old i stop (Some p) new = Acts b (seats_of old) (without (network_of old) i) (receiver_of p) stop (Hears p) (seats_of new) (network_of new)

  abbrev pub FailsToDeliver : TwoWorld (Torn D) (torn b) → ℕ → Option Stop → Option Packet2 → TwoWorld (Torn D) (torn b) → TwoRefused → Type 0
  FailsToDeliver old i stop None new why = ⊥
  FailsToDeliver old i stop (Some p) new why = FailsToAct b (seats_of old) (without (network_of old) i) (receiver_of p) stop (Hears p) (seats_of new) why

  -- It is the world of the same script. Its disks are kept, and each component but that of the event is as it was.
  pub record KeepsOthers (old : TwoWorld (Torn D) (torn b)) (what : What2) (new : TwoWorld (Torn D) (torn b)) : Type 0 where
    pub same : IsSameScript old new
    pub disks : KeepsDisks (torn b) (seats_of old) (seats_of new)
    pub others : (k : ℕ) → component_of (world_of old) what ≢ Some k → slice_get (seats_of new) k ≡ slice_get (seats_of old) k

  -- the event is done
  pub record Steps2 (old : TwoWorld (Torn D) (torn b)) (e : Event2) (new : TwoWorld (Torn D) (torn b)) : Type 0 where
    pub leads : Leads (openings_of old) (print_of old) (seats_of old) (network_of old) e (seats_of new) (network_of new)
    pub rest : KeepsOthers old e.what new

  -- the disk of the component that failed has failed
  abbrev pub IsFailed2 : List (Seat (Torn D) (torn b)) → List (Seat (Torn D) (torn b)) → TwoRefused → Type 0
  IsFailed2 xs ys (refused.Failed c) = (x : Seat (Torn D) (torn b)) × (y : Seat (Torn D) (torn b)) × (slice_get xs c ≡ Some x) × (slice_get ys c ≡ Some y) × HasFault b (disk_in x) (disk_in y)
  IsFailed2 xs ys why = ⊤

  -- why the event isn't done
  pub record FailsToStep2 (old : TwoWorld (Torn D) (torn b)) (e : Event2) (new : TwoWorld (Torn D) (torn b)) (why : TwoRefused) : Type 0 where
    pub refused : KeepModel (seats_of old) → IsRefused2 (openings_of old) (print_of old) (state_of old) e why
    pub failed : IsFailed2 (seats_of old) (seats_of new) why
    pub of_event : IsOfEvent (world_of old) e.what why
    pub files : KeepModel (seats_of old) → LeavesFiles (openings_of old) (print_of old) (seats_of old) (network_of old) e (seats_of new) why
    pub rest : KeepsOthers old e.what new
