-- What contracts see of a component of moves.
use Rattle.std.specs.Prelude.{◌≡◌, ℕ, ◌+◌, ◌≤◌, Bool, true, false, not, ◌||◌, List, [], length, Option, Some, None}
use Rattle.def_two.specs.declared.moves.Record2.{Record2}
use Rattle.def_two.specs.declared.states.Heard.{Heard}
use Rattle.def_two.specs.Moves.{Openings, nth_book, is_lawful}
use Rattle.def_two.specs.Chief.{Call, Begins, Hears, Resends, Step, waits, nothing_heard}
use Rattle.def_two.specs.CoreSteps.{IsLog2, has_no_room2, is_past_number}
use Rattle.def_two.specs.Logs.{log2_of}
use Rattle.def_two.specs.World.{Site, book_does}
use Rattle.ic_disk.specs.declared.disk.Disk.{Ghosts}
use Rattle.ic_two.specs.Books as books
use Rattle.ic_two.specs.ChiefLogs as chiefs
use Rattle.ic_two.specs.Standing.{read_or_none}
use Rattle.ic_disk.specs.Torns.{is_working}
use Rattle.ic_seat.specs.declared.call.Call2.{Call2}
use Rattle.ic_seat.specs.declared.call.Call2.TheVariants as calls
use Rattle.ic_seat.specs.declared.seat.Seat.{Seat}
use Rattle.ic_seat.specs.declared.seat.Seat.TheVariants.{Chief, Book, Down}

abbrev pub call_of : Call2 → Call
call_of (calls.Begins m) = Begins m
call_of (calls.Hears p) = Hears p
call_of calls.Resends = Resends

-- the records of a component that is down: those that were kept, or else those that its disk reads
abbrev pub down_log : Option (List Record2) → List ℕ → List Record2
down_log (Some rs) file = rs
down_log None file = read_or_none (log2_of file)

module _ {D : Type 0} {d : Ghosts D} where
  -- whether it is up, and its records
  abbrev pub site_of : Seat D d → Site
  site_of (Chief x) = record { up = true; log = chiefs.records_of x }
  site_of (Book x) = record { up = true; log = books.records_of x }
  site_of (Down disk kept) = record { up = false; log = down_log kept (d.seen disk) }

  -- what it heard in its present life; only a chief hears
  abbrev pub heard_in : Seat D d → Heard
  heard_in (Chief x) = chiefs.heard_of x
  heard_in (Book x) = nothing_heard
  heard_in (Down disk kept) = nothing_heard

  abbrev pub disk_in : Seat D d → D
  disk_in (Chief x) = chiefs.disk_of x
  disk_in (Book x) = books.disk_of x
  disk_in (Down disk kept) = disk

  -- it isn't closed
  abbrev pub is_open : Seat D d → Bool
  is_open (Chief x) = not (chiefs.is_closed x)
  is_open (Book x) = not (books.is_closed x)
  is_open (Down disk kept) = true

  -- it is up
  abbrev pub is_up : Seat D d → Bool
  is_up x = (site_of x).up

  -- what the rules make of a call
  abbrev pub step_in : Seat D d → Call → Step
  step_in (Chief x) call = chiefs.step_of x call
  step_in (Book x) call = book_does nothing_heard (books.number_of x) (books.holds x) call
  step_in (Down disk kept) call = waits nothing_heard

  -- the number of a move that begins would pass its limit; only a chief begins moves
  abbrev pub is_past : Seat D d → Call → Bool
  is_past (Chief x) call = is_past_number call
  is_past (Book x) call = false
  is_past (Down disk kept) call = false

  -- the step would pass the limit of a number, or of the log, which has this size
  abbrev pub is_full : ℕ → Seat D d → Call → Bool
  is_full size x call = is_past x call || has_no_room2 size (step_in x call).adds

  -- a move begins lawfully and as the next one
  abbrev pub MayBegin : Seat D d → Call → Type 0
  MayBegin (Chief x) (Begins m) = (m.n ≡ length (chiefs.docket_in x).begun + 1) × (is_lawful m ≡ true)
  MayBegin x call = Unit {0}

  -- it is the chief, component 0, or the book of this number; of what is down this isn't known
  abbrev pub IsSeatOf : Openings → ℕ → Seat D d → Type 0
  IsSeatOf openings c (Chief x) = c ≡ 0
  IsSeatOf openings c (Book x) = (1 ≤ c) × (books.number_of x ≡ c) × (books.opening_of x ≡ nth_book openings c)
  IsSeatOf openings c (Down disk kept) = Unit {0}

-- What holds between events: it isn't closed, a stop is set on its disk that wasn't reached, and nothing waits for a sync.
pub record Stands {D : Type 0} (d : Ghosts D) (x : Seat D d) : Type 0 where
  pub is_open_now : is_open x ≡ true
  pub works : is_working d (disk_in x) ≡ true
  pub rests : (d.stop (disk_in x)).waiting ≡ []

-- where the disk keeps the disk model it holds the log of this script with the records of the component
abbrev pub HoldsLog : {D : Type 0} → (d : Ghosts D) → List ℕ → ℕ → Seat D d → Type 0
HoldsLog d print c x = d.keeps (disk_in x) → IsLog2 print c (d.seen (disk_in x)) (site_of x).log
