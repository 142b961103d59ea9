-- What is done to disks before a new log is written.
use Rattle.std.specs.Prelude.{◌≡◌, ◌⊎◌, ℕ, List, [], length, slice_get, Some}
use Rattle.def_log.specs.Images.{LeavesJust}
use Rattle.ic_disk.specs.Causes.{Rose}
use Rattle.ic_disk.specs.Disk.{Keeps, CrashLeaves}
use Rattle.ic_disk.specs.declared.disk.Disk.{Ghosts}

-- this was done to each of several disks, by its place
pub record EachMeets {D : Type 0} (P : ℕ → D → D → Type 0) (olds news : List D) : Type 0 where
  pub long : length news ≡ length olds
  pub each : (i : ℕ) (old : D) → slice_get olds i ≡ Some old → (new : D) × (slice_get news i ≡ Some new) × P i old new

module _ {D : Type 0} (d : Ghosts D) where
  -- no write waits: a crash leaves just the bytes that are there
  abbrev pub IsAtRest : D → Type 0
  IsAtRest x = d.keeps x → LeavesJust (d.may_leave x) (d.seen x)

  -- the disk failed in the call, or stands stopped
  abbrev pub HasFailed : D → D → Type 0
  HasFailed old new = Rose (d.faults old) (d.faults new) ⊎ d.stopped new

  -- The disk wasn't written: its bytes are as before, unless it failed while a write waited for a sync, and a crash leaves nothing more.
  pub record IsOnlyRead (old new : D) : Type 0 where
    pub kept : Keeps d old new
    pub crash : CrashLeaves d old new (d.may_leave old)
    pub bytes : d.tells old → (d.seen new ≡ d.seen old) ⊎ HasFailed old new

  -- the disk has no bytes
  pub record IsBlank (old new : D) : Type 0 where
    pub empty : d.tells old → d.seen old ≡ []
    pub still : d.tells old → d.seen new ≡ []
