-- What contracts see of a world of moves with its disks.
use Rattle.std.specs.Prelude.{◌≡◌, ◌≤◌, ℕ, suc, Bool, true, List, [], ◌∷◌, length, map, Option, Some, None, slice_get}
use Rattle.ic_base.specs.declared.limits.TheConstants.{COMPONENTS, PACKETS}
use Rattle.def_two.specs.declared.moves.Ruling.{Ruling}
use Rattle.def_two.specs.declared.states.Heard.{Heard}
use Rattle.def_two.specs.declared.script.Event2.{Event2}
use Rattle.def_two.specs.declared.script.What2.{What2}
use Rattle.def_two.specs.Chief.{nothing_heard, ruling_of, is_all_done}
use Rattle.def_two.specs.CoreSteps.{SystemState2}
use Rattle.def_two.specs.Moves.{Openings}
use Rattle.def_two.specs.World.{World2}
use Rattle.law_two.specs.Settling.{CanSettle2}
use Rattle.ic_disk.specs.Disk.{Keeps}
use Rattle.ic_disk.specs.declared.disk.Disk.{Ghosts}
use Rattle.ic_moves.specs.Chiefs as chiefs
use Rattle.ic_moves.specs.Networks.{Network}
use Rattle.ic_seat.specs.Seats.{site_of, heard_in, disk_in, IsSeatOf, Stands, HoldsLog}
use Rattle.ic_seat.specs.declared.seat.Seat.{Seat}
use Rattle.ic_seat.specs.declared.seat.Seat.TheVariants.{Chief, Book, Down}
use Rattle.ic_two.specs.Books as books
use Rattle.ic_two.specs.ChiefLogs.{docket_in}
use Rattle.ic_two_world.specs.declared.world.TwoWorld.{TwoWorld}

-- an event without a stop
abbrev pub without_stop : What2 → Event2
without_stop what = record { what = what; stop = None }

module _ {D : Type 0} {d : Ghosts D} where
  -- what the first of these heard
  abbrev pub heard_at : List (Seat D d) → Heard
  heard_at [] = nothing_heard
  heard_at (x ∷ xs) = heard_in x

  -- how many moves were begun, where this is the chief, and it is up
  abbrev pub begun_if_up_in : Option (Seat D d) → Option ℕ
  begun_if_up_in None = None
  begun_if_up_in (Some (Chief x)) = Some (length (docket_in x).begun)
  begun_if_up_in (Some (Book x)) = None
  begun_if_up_in (Some (Down disk kept)) = None

  -- its decision on move n, where this is the chief, and it is up
  abbrev pub ruling_if_up_in : ℕ → Option (Seat D d) → Option Ruling
  ruling_if_up_in n None = None
  ruling_if_up_in n (Some (Chief x)) = ruling_of (docket_in x) n
  ruling_if_up_in n (Some (Book x)) = None
  ruling_if_up_in n (Some (Down disk kept)) = None

  -- its value of a key, where this is a book, and it is up
  abbrev pub value_if_up_in : ℕ → Option (Seat D d) → Option ℕ
  value_if_up_in key None = None
  value_if_up_in key (Some (Chief x)) = None
  value_if_up_in key (Some (Book x)) = slice_get (books.holds x).values key
  value_if_up_in key (Some (Down disk kept)) = None

  -- whether each begun move is Done by both its books, where this is the chief, and it is up
  abbrev pub done_if_up_in : Option (Seat D d) → Bool
  done_if_up_in None = true
  done_if_up_in (Some (Chief x)) = is_all_done (docket_in x) (heard_in (Chief x))
  done_if_up_in (Some (Book x)) = true
  done_if_up_in (Some (Down disk kept)) = true

  -- the bytes that its disk reads
  abbrev pub file_in : Seat D d → List ℕ
  file_in x = d.seen (disk_in x)

  -- the world of the definitions, of these components and this network
  abbrev pub world_with : List (Seat D d) → Network → World2
  world_with xs n = record { sites = map site_of xs; heard = heard_at xs; packets = n.packets; waiting = n.waiting }

  abbrev pub state_with : List (Seat D d) → Network → SystemState2
  state_with xs n = record { world = world_with xs n; files = map file_in xs }

  -- the chief and behind it the books
  abbrev pub seats_of : TwoWorld D d → List (Seat D d)
  seats_of w = w.seats.items

  abbrev pub openings_of : TwoWorld D d → Openings
  openings_of w = chiefs.openings_of w.books

  abbrev pub print_of : TwoWorld D d → List ℕ
  print_of w = w.fingerprint

  abbrev pub network_of : TwoWorld D d → Network
  network_of w = w.network

  abbrev pub world_of : TwoWorld D d → World2
  world_of w = world_with (seats_of w) (network_of w)

  -- the same, with the bytes that the disk of each component reads
  abbrev pub state_of : TwoWorld D d → SystemState2
  state_of w = state_with (seats_of w) (network_of w)

  -- each disk keeps the disk model
  abbrev pub KeepModel : List (Seat D d) → Type 0
  KeepModel xs = (c : ℕ) (x : Seat D d) → slice_get xs c ≡ Some x → d.keeps (disk_in x)

module _ {D : Type 0} (d : Ghosts D) where
  -- there are as many components, and the disk of each is kept
  pub record KeepsDisks (xs ys : List (Seat D d)) : Type 0 where
    pub count : length ys ≡ length xs
    pub each : (c : ℕ) (x y : Seat D d) → slice_get xs c ≡ Some x → slice_get ys c ≡ Some y → Keeps d (disk_in x) (disk_in y)

  -- it is in its place between events, over its log
  pub record IsSeated (openings : Openings) (print : List ℕ) (c : ℕ) (x : Seat D d) : Type 0 where
    pub stands : Stands d x
    pub holds : HoldsLog d print c x
    pub seat : IsSeatOf openings c x

  abbrev pub AreSeated : Openings → List ℕ → List (Seat D d) → Type 0
  AreSeated openings print xs = (c : ℕ) (x : Seat D d) → slice_get xs c ≡ Some x → IsSeated openings print c x

  -- what a world keeps that goes on
  pub record GoesOn (openings : Openings) (print : List ℕ) (xs : List (Seat D d)) (n : Network) : Type 0 where
    pub count : length xs ≡ suc (length openings)
    pub bounded : length xs ≤ COMPONENTS
    pub seated : AreSeated openings print xs
    pub settles : CanSettle2 openings (world_with xs n)
    pub few : length n.packets ≤ PACKETS
    pub waits : length n.waiting ≤ length n.packets

  -- no refusal ended it
  abbrev pub IsGoing : TwoWorld D d → Type 0
  IsGoing w = GoesOn (openings_of w) (print_of w) (seats_of w) (network_of w)
