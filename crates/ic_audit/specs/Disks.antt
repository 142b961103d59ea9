-- What an audit leaves of the disks, and why it comes to nothing.
use Rattle.std.specs.Prelude.{◌≡◌, ◌≤◌, ◌+◌, ◌⊎◌, ℕ, true, List, length, slice_get, Some, Result, Err}
use Rattle.ic_base.specs.declared.messages.ComId.{ComId}
use Rattle.ic_base.specs.declared.report.Fault.{Fault}
use Rattle.ic_base.specs.declared.report.Fault.TheVariants as faults
use Rattle.ic_disk.specs.Causes.{Rose}
use Rattle.ic_disk.specs.Disk.{Keeps}
use Rattle.ic_disk.specs.declared.disk.Disk.{Ghosts}
use Rattle.ic_report.specs.declared.ending.Why.{Why}
use Rattle.ic_report.specs.declared.ending.Why.TheVariants.{Fault as AFault, Print, Memory}

-- Why nothing is answered where this is what there is to answer. `tells` says that it can be known, and `faulted` that the disk of a
-- component failed. A fault of a disk and want of memory may come at any time.
abbrev pub Refuses : {A : Type 0} → Type 0 → (ComId → Type 0) → Result A Fault → Why → Type 0
Refuses tells faulted is (AFault (faults.Foreign c kept given)) = tells → is ≡ Err (faults.Foreign c kept given)
Refuses tells faulted is (AFault (faults.Bad c place)) = tells → is ≡ Err (faults.Bad c place)
Refuses tells faulted is (AFault (faults.Illegal entry)) = tells → is ≡ Err (faults.Illegal entry)
Refuses tells faulted is (AFault (faults.Disk c)) = faulted c
Refuses tells faulted is (AFault _) = ⊥
Refuses tells faulted is Print = ⊥
Refuses tells faulted is Memory = Unit {0}

module _ {D : Type 0} (d : Ghosts D) where
  -- the disk failed in the call, or stands stopped
  abbrev pub HasFailed : D → D → Type 0
  HasFailed old new = Rose (d.faults old) (d.faults new) ⊎ d.stopped new

  -- The disk was looked at alone: its bytes are as before, unless it failed while a write waited for a sync. It was read at most once, by
  -- a sync, a question for its length and a read.
  pub record IsLookedAt (old new : D) : Type 0 where
    pub kept : Keeps d old new
    pub calls : d.calls new ≤ d.calls old + 3
    pub settled : d.tells old → d.settled old ≡ true → d.seen new ≡ d.seen old
    pub bytes : d.tells old → (d.seen new ≡ d.seen old) ⊎ HasFailed old new

  -- all these disks were looked at alone
  pub record AreLookedAt (olds news : List D) : Type 0 where
    pub long : length news ≡ length olds
    pub each : (i : ℕ) (old : D) → slice_get olds i ≡ Some old → (new : D) × (slice_get news i ≡ Some new) × IsLookedAt old new

  -- all these disks tell their bytes
  abbrev pub AllTell : List D → Type 0
  AllTell disks = (i : ℕ) (disk : D) → slice_get disks i ≡ Some disk → d.tells disk

  -- the disk of this component failed
  abbrev pub HasFailedAt : List D → List D → ComId → Type 0
  HasFailedAt olds news c = (old new : D) × (slice_get olds c.0 ≡ Some old) × (slice_get news c.0 ≡ Some new) × HasFailed old new
