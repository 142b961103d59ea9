-- A stop that is set to be reached at a call of a disk, and what the calls until then come to.
use Rattle.std.specs.Prelude.{◌≡◌, ◌⊎◌, ◌<◌, ◌≤◌, ◌-◌, ◌==◌, if◌then◌else◌, ℕ, Bool, true, false, List, [], ◌∷◌, ◌++◌, length, Option, Some, None}
use Rattle.ic_base.specs.declared.events.Fill.{Fill}
use Rattle.def_log.specs.Torn.{Write, all_written, torn}

-- a device call
pub data DeviceCall : Type 0 where
  AsksLength : DeviceCall
  Reads : DeviceCall
  Writes : ℕ → List ℕ → DeviceCall
  Syncs : DeviceCall

-- A stop that is set: at which call from now on it is reached, the next one being 1 (0: at none); how many of the bytes that
-- wait for a sync then arrive, and what stands in place of the others; and whether it was reached.
pub record Script : Type 0 where
  pub left : ℕ
  pub keep : ℕ
  pub fill : Fill
  pub reached : Bool

-- the stop that is set for a disk, the bytes at its last sync, and the writes that wait for the next one
pub record StopState : Type 0 where
  pub script : Option Script
  pub synced : List ℕ
  pub waiting : List Write

-- no stop is set
abbrev pub no_stop : StopState
no_stop = record { script = None; synced = []; waiting = [] }

-- the stop behind so many more calls, of which none reached it
abbrev pub counted_down : ℕ → Script → Script
counted_down n s = record s { left = s.left - n }

abbrev pub was_reached : Script → Script
was_reached s = record s { left = 1; reached = true }

-- the writes that wait, that of a call included
abbrev pub waiting_with : DeviceCall → List Write → List Write
waiting_with AsksLength writes = writes
waiting_with Reads writes = writes
waiting_with (Writes at bytes) writes = writes ++ (at, bytes) ∷ []
waiting_with Syncs writes = writes

-- the writes that wait behind a call
abbrev pub waiting_by : DeviceCall → List Write → List Write
waiting_by AsksLength writes = writes
waiting_by Reads writes = writes
waiting_by (Writes at bytes) writes = writes ++ (at, bytes) ∷ []
waiting_by Syncs writes = []

-- the bytes at the last sync, behind a call
abbrev pub synced_by : DeviceCall → List ℕ → List Write → List ℕ
synced_by AsksLength file writes = file
synced_by Reads file writes = file
synced_by (Writes at bytes) file writes = file
synced_by Syncs file writes = all_written file writes

-- behind several calls
abbrev pub waiting_after : List DeviceCall → List Write → List Write
waiting_after [] writes = writes
waiting_after (c ∷ cs) writes = waiting_after cs (waiting_by c writes)

abbrev pub synced_after : List DeviceCall → List ℕ → List Write → List ℕ
synced_after [] file writes = file
synced_after (c ∷ cs) file writes = synced_after cs (synced_by c file writes) (waiting_by c writes)

-- the image of a stop that is reached at the call of this number, of these calls
abbrev pub image_at : ℕ → List DeviceCall → List ℕ → List Write → ℕ → Fill → List ℕ
image_at left [] file writes keep fill = file
image_at left (c ∷ cs) file writes keep fill =
    if left == 1 then torn file (waiting_with c writes) keep fill else image_at (left - 1) cs (synced_by c file writes) (waiting_by c writes) keep fill

-- calls that were all made, and none of them reached the stop
pub record Passes (tells : Type 0) (calls : List DeviceCall) (s : Script) (old new : StopState) : Type 0 where
  pub later : 1 ≤ s.left → length calls < s.left
  pub script : new.script ≡ Some (counted_down (length calls) s)
  pub synced : tells → new.synced ≡ synced_after calls old.synced old.waiting
  pub waiting : tells → new.waiting ≡ waiting_after calls old.waiting

-- one of the calls reached the stop: unless the device failed, the disk holds the stop's image, byte for byte
pub record Reaches (tells failed : Type 0) (calls : List DeviceCall) (s : Script) (old : StopState) (bytes : List ℕ) (new : StopState) : Type 0 where
  pub first : 1 ≤ s.left
  pub within : s.left ≤ length calls
  pub script : new.script ≡ Some (was_reached s)
  pub image : ¬ failed → tells → bytes ≡ image_at s.left calls old.synced old.waiting s.keep s.fill

-- some of the calls were made, and none of them reached the stop
pub record BreaksOff (calls : List DeviceCall) (s : Script) (new : StopState) : Type 0 where
  pub made : ℕ
  pub few : made ≤ length calls
  pub later : 1 ≤ s.left → made < s.left
  pub script : new.script ≡ Some (counted_down made s)

-- What the calls come to at a disk with a stop: no stop sets itself, one that was reached stays so, and one that waits is
-- reached exactly at its call.
pub record Obeys (tells failed : Type 0) (calls : List DeviceCall) (old : StopState) (ok : Bool) (bytes : List ℕ) (new : StopState) : Type 0 where
  pub unset : old.script ≡ None → new.script ≡ None
  pub over : (s : Script) → old.script ≡ Some s → s.reached ≡ true → new.script ≡ Some s
  pub done : (s : Script) → old.script ≡ Some s → s.reached ≡ false → ok ≡ true → Passes tells calls s old new
  pub not_done : (s : Script) → old.script ≡ Some s → s.reached ≡ false → ok ≡ false → Reaches tells failed calls s old bytes new ⊎ BreaksOff calls s new

-- the stop of a disk isn't touched
pub record IsSameStop (tells : Type 0) (old new : StopState) : Type 0 where
  pub script : new.script ≡ old.script
  pub synced : tells → new.synced ≡ old.synced
  pub waiting : tells → new.waiting ≡ old.waiting
