-- What contracts see of a book, and what its calls come to.
use Rattle.std.specs.Prelude.{◌≡◌, ◌⊎◌, ℕ, ◌+◌, Bool, true, false, List, [], ◌∷◌, ◌++◌, length, Option, Some, Result, Ok, Err, option_to_list}
use Rattle.def_log.specs.Changes.{IsOfSame}
use Rattle.def_log.specs.Frame.{fingerprint_in, owner_in}
use Rattle.def_log.specs.Sizes.{size_in}
use Rattle.def_two.specs.declared.moves.Packet2.{Packet2}
use Rattle.def_two.specs.declared.moves.Record2.{Record2}
use Rattle.def_two.specs.declared.states.BookState.{BookState}
use Rattle.def_two.specs.Book.{BookStep, book_of, book_step}
use Rattle.def_two.specs.Records.{payload2_of}
use Rattle.def_two.specs.Logs.{log2_of}
use Rattle.def_two.specs.CoreSteps.{has_no_room2}
use Rattle.ic_disk.specs.Causes.{Rose}
use Rattle.ic_disk.specs.Disk.{Keeps}
use Rattle.ic_disk.specs.Stops.{DeviceCall}
use Rattle.ic_disk.specs.declared.disk.Disk.{Ghosts}
use Rattle.ic_gate.specs.Calls.{gated_calls, force_writes}
use Rattle.ic_gate.specs.Logs as logs
use Rattle.ic_gate.specs.declared.log.Log.{Log}
use Rattle.ic_gate.specs.declared.refusals.LoadRefused.{LoadRefused}
use Rattle.ic_gate.specs.declared.refusals.LoadWhy.TheVariants as load
use Rattle.ic_gate.specs.declared.refusals.StepRefused.{StepRefused}
use Rattle.ic_gate.specs.declared.refusals.StepRefused.TheVariants.{Failed, Stopped, Full, Memory}
use Rattle.ic_two.specs.Views as views
use Rattle.ic_two.specs.declared.book.Book.{Book}

-- its number, from 1
abbrev pub number_of : {D : Type 0} {b : _} → Book D b → ℕ
number_of x = x.core.number

abbrev pub opening_of : {D : Type 0} {b : _} → Book D b → List ℕ
opening_of x = x.opening

-- its records, all of which stand in the file
abbrev pub records_of : {D : Type 0} {b : _} → Book D b → List Record2
records_of x = views.records_of x.log

abbrev pub disk_of : {D : Type 0} {b : _} → Book D b → D
disk_of x = views.disk_of x.log

abbrev pub size_of : {D : Type 0} {b : _} → Book D b → ℕ
size_of x = views.size_of x.log

abbrev pub is_closed : {D : Type 0} {b : _} → Book D b → Bool
is_closed x = views.is_closed x.log

-- what its log gives
abbrev pub holds : {D : Type 0} {b : _} → Book D b → BookState
holds x = book_of (number_of x) (opening_of x) (records_of x)

-- the size of a log with these records as one batch more; no records are no batch
abbrev pub size_with : ℕ → List Record2 → ℕ
size_with size [] = size
size_with size (r ∷ rs) = size + 5 + length (payload2_of (r ∷ rs))

module _ {D : Type 0} {d : Ghosts D} where
  -- the step that the definition makes of a packet
  abbrev pub step_of : Book D d → Packet2 → BookStep
  step_of x p = book_step (number_of x) (holds x) p

  -- the device calls of the step: those of one force of its record, if there is one
  abbrev pub calls_of : Book D d → Packet2 → List DeviceCall
  calls_of x p = gated_calls (force_writes (size_of x) (payload2_of (step_of x p).adds))

  pub record IsSameBook (old new : Book D d) : Type 0 where
    pub number : number_of new ≡ number_of old
    pub opening : opening_of new ≡ opening_of old

  -- the same book with the same records, in a log of the same size, which is closed just if it was
  pub record IsSame (old new : Book D d) : Type 0 where
    pub same : IsSameBook old new
    pub log : views.IsSame old.log new.log

  -- the first book, over this log
  pub record Starts (values : List ℕ) (b : ℕ) (on : Log D d) (new : Book D d) : Type 0 where
    pub number : number_of new ≡ b
    pub opening : opening_of new ≡ values
    pub records : records_of new ≡ []
    pub disk : disk_of new ≡ logs.disk_of on
    pub size : size_of new ≡ logs.size_of on
    pub is_open : is_closed new ≡ false

  -- memory alone is wanting, and the log's disk is handed back
  pub record IsForMemory (log : Log D d) (refused : LoadRefused D) : Type 0 where
    pub why : refused.why ≡ load.Memory
    pub disk : refused.disk ≡ logs.disk_of log

  -- the step would pass the limit of the log
  abbrev pub IsFull : Book D d → Packet2 → Bool → Type 0
  IsFull x p is = has_no_room2 (size_of x) (step_of x p).adds ≡ is

  -- the answer and the records are those of the step; its record is forced
  pub record Serves (old : Book D d) (p : Packet2) (new : Book D d) (answer : Option Packet2) : Type 0 where
    pub records : records_of new ≡ records_of old ++ (step_of old p).adds
    pub puts : (step_of old p).puts ≡ option_to_list answer
    pub room : IsFull old p false
    pub size : size_of new ≡ size_with (size_of old) (step_of old p).adds
    pub is_open : is_closed new ≡ false

  -- It is the same book, and its disk is kept. While it is open the file is the log of its records, and that of the same component.
  pub record KeepsLog (old new : Book D d) : Type 0 where
    pub same : IsSameBook old new
    pub disk : Keeps d (disk_of old) (disk_of new)
    pub log : d.tells (disk_of old) → is_closed new ≡ false → log2_of (d.seen (disk_of new)) ≡ Ok (records_of new)
    pub whose : d.tells (disk_of old) → is_closed new ≡ false → IsOfSame (d.seen (disk_of old)) (d.seen (disk_of new))

  -- the book is as it was, and so is its file
  pub record IsUnmoved (old new : Book D d) : Type 0 where
    pub records : records_of new ≡ records_of old
    pub size : size_of new ≡ size_of old
    pub bytes : d.tells (disk_of old) → d.seen (disk_of new) ≡ d.seen (disk_of old)
    pub is_open : is_closed new ≡ false

  -- why a packet isn't served, and what then stands
  abbrev pub FailsToServe : Book D d → Packet2 → Book D d → StepRefused → Type 0
  FailsToServe old p new Failed = (is_closed new ≡ true) × Rose (d.faults (disk_of old)) (d.faults (disk_of new))
  FailsToServe old p new Stopped = (is_closed new ≡ true) × d.stopped (disk_of new) × IsFull old p false
  FailsToServe old p new Full = IsUnmoved old new × IsFull old p true
  FailsToServe old p new Memory = IsUnmoved old new

  -- the file holds the old records, or these and that of the step, and is that of the same component
  abbrev pub IsBeforeOrServed : Book D d → Packet2 → List ℕ → Type 0
  IsBeforeOrServed old p image = IsOfSame (d.seen (disk_of old)) image
      × ((log2_of image ≡ Ok (records_of old)) ⊎ (log2_of image ≡ Ok (records_of old ++ (step_of old p).adds)))

-- its disk, which is handed back where there is no book
abbrev pub disk_left : {D : Type 0} {b : _} → Result (Book D b) (LoadRefused D) → D
disk_left (Ok x) = disk_of x
disk_left (Err refused) = refused.disk

module _ {D : Type 0} (d : Ghosts D) where
  -- the book that the log on the disk stands for; the file isn't changed
  pub record ComesUp (values : List ℕ) (b : ℕ) (old : D) (fingerprint : List ℕ) (new : Book D d) : Type 0 where
    pub number : number_of new ≡ b
    pub opening : opening_of new ≡ values
    pub read : d.tells old → log2_of (d.seen old) ≡ Ok (records_of new)
    pub own : d.tells old → fingerprint_in (d.seen old) ≡ fingerprint
    pub owned : d.tells old → owner_in (d.seen old) ≡ b
    pub bytes : d.tells old → d.seen (disk_of new) ≡ d.seen old
    pub sized : d.tells old → size_in (d.seen old) ≡ Some (size_of new)
    pub is_open : is_closed new ≡ false
