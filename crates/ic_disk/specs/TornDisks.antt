-- A disk over another one, which holds its writes until the next sync, and stops where it was told to.
use Rattle.std.specs.Prelude.{◌≡◌, ◌<◌, ◌≤◌, ◌+◌, ◌-◌, ◌^◌, ◌==◌, ◌&&◌, not, min, max, get_or, if◌then◌else◌, ℕ, Bool, true, false, List, [], ◌∷◌, length, take, Option, Some, None}
use Rattle.std.specs.List.{AllByRecursion}
use Rattle.def_log.specs.Torn.{Write, written, all_written, torn}
use Rattle.def_log.specs.Images.{MayLeave}
use Rattle.ic_disk.specs.Stops.{Script, counted_down, was_reached}

-- the disk below, the writes that are held, for how many further bytes there is room, the stop that is set, whether the
-- disk stands stopped by it, and how many device calls were made
pub record Torn (D : Type 0) : Type 0 where
  pub inner : D
  pub held : List Write
  pub room : ℕ
  pub script : Option Script
  pub stopped : Bool
  pub made : ℕ

-- how many spare bytes the disk below needs for these writes
abbrev pub need : List Write → ℕ
need [] = 0
need (w ∷ writes) = length w.1 + 32 + need writes

-- how many bytes these writes have
abbrev pub total : List Write → ℕ
total [] = 0
total (w ∷ writes) = length w.1 + total writes

-- no write is held
abbrev pub is_none_held : List Write → Bool
is_none_held [] = true
is_none_held (w ∷ writes) = false

-- each write begins at most at the end of the file that those before it made
abbrev pub AreReached : List ℕ → List Write → Type 0
AreReached file [] = Unit {0}
AreReached file (w ∷ writes) = (w.0 ≤ length file) × AreReached (written file w.0 w.1) writes

-- the writes are reached, and the file has that many bytes behind them
abbrev pub Gives : List ℕ → List Write → ℕ → Type 0
Gives file writes count = AreReached file writes × (count ≤ length (all_written file writes))

-- each write ends below 2^64
abbrev pub AreShort : List Write → Type 0
AreShort writes = AllByRecursion (λ w. w.0 + length w.1 < 2 ^ 64) writes

-- of these writes the first so many bytes can be written, in order
abbrev pub CanArrive : ℕ → List ℕ → List Write → Type 0
CanArrive keep file [] = Unit {0}
CanArrive keep file (w ∷ writes) = (0 < min (length w.1) keep → w.0 ≤ length file) × CanArrive (keep - length w.1) (written file w.0 (take keep w.1)) writes

-- how many of these writes have something of their first so many bytes
abbrev pub arrivals : ℕ → List Write → ℕ
arrivals keep [] = 0
arrivals keep (w ∷ writes) = (if min (length w.1) keep == 0 then 0 else 1) + arrivals (keep - length w.1) writes

-- bytes that come of such ones by these writes, until they are synced
abbrev pub TornBy : List Write → (List ℕ → Type 0) → List ℕ → Type 0
TornBy writes from image = (was : List ℕ) × from was × MayLeave was writes image

-- a stop that was reached
abbrev pub is_reached : Option Script → Bool
is_reached None = false
is_reached (Some s) = s.reached

-- the stop that contracts see: one that was set while the disk stood stopped waits for its power
abbrev pub shown : Bool → Option Script → Option Script
shown stopped None = None
shown false (Some s) = Some s
shown true (Some s) = if s.reached then Some s else None

-- the next device call reaches the stop
abbrev pub is_due : Option Script → Bool
is_due None = false
is_due (Some s) = not s.reached && s.left == 1

-- the stop behind a device call that doesn't reach it
abbrev pub after_call : Option Script → Option Script
after_call None = None
after_call (Some s) = if s.reached then Some s else Some (counted_down 1 s)

-- the stop behind the beginning of a device call, which a disk that stands stopped refuses
abbrev pub after_begin : Bool → Option Script → Option Script
after_begin true script = script
after_begin false script = if is_due script then script else after_call script

-- where the writes end that end last
abbrev pub ends : List Write → ℕ
ends [] = 0
ends (w ∷ writes) = max (w.0 + length w.1) (ends writes)

-- these bytes are those of a file from this offset on, with zeros behind its end
abbrev pub Shows : ℕ → List ℕ → List ℕ → Type 0
Shows at file bytes = (i : ℕ) → i < length bytes → get_or bytes i 0 ≡ get_or file (at + i) 0

-- the stop, reached
abbrev pub reached_script : Option Script → Option Script
reached_script None = None
reached_script (Some s) = Some (was_reached s)

-- the image of the stop over these bytes, with the writes that wait
abbrev pub stop_image : Option Script → List ℕ → List Write → List ℕ
stop_image None file writes = file
stop_image (Some s) file writes = torn file writes s.keep s.fill
