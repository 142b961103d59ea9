-- Writing the new logs, one disk after the other.
use Rattle.std.proofs.Common.{◌≡◌, ◌∙◌, ap, sym, subst, refl, ℕ, ◌<◌, ◌≤◌, List, length, get_or, Some, inl, inr, arith}
use Rattle.std.specs.Prelude.{Result, Err, slice_get}
use Rattle.std.proofs.lemmas.List.{length-take}
use Rattle.std.proofs.lemmas.Option.{get_or_from_slice_get, slice_get-get_or}
use Rattle.ic_disk.specs.Causes.{IsCaused}
use Rattle.ic_disk.specs.declared.disk.Disk.{Ghosts}
use Rattle.ic_disk.specs.declared.disk.DiskError.{DiskError}
use Rattle.ic_disk.specs.declared.disk.DiskError.TheVariants as disk
use Rattle.ic_opening.specs.Disks.{HasFailed, IsOnlyRead}
use Rattle.ic_opening.specs.NewLogs.{IsNewLog}
use Rattle.ic_opening.specs.Stages.{OfLog, MayHoldPart, has_room, holds_unopened, may_hold, holds}

-- a new log has a first letter
pub some : (log : List ℕ) → IsNewLog log → 1 ≤ length log
some log new = omega (arith, ap length new.first, length-take 1 log)

-- what is said of the log at a place
pub of_log : (logs : List (List ℕ)) (i : ℕ) (log other : List ℕ) (P : List ℕ → Type 0) → log ≡ get_or logs i other → P log → OfLog logs i P
of_log logs i log other P is p l got = subst P (is ∙ get_or_from_slice_get logs i l other got) p

-- and is there
pub log_at : (logs : List (List ℕ)) (i : ℕ) (log other : List ℕ) → log ≡ get_or logs i other → i < length logs → slice_get logs i ≡ Some log
log_at logs i log other is lt = slice_get-get_or logs i other lt ∙ ap (λ (l : List ℕ). Some l) (sym is)

module _ {D : Type 0} (d : Ghosts D) where
  -- a call that was refused, and not for memory, failed
  pub has_failed : {T : Type 0} (old new : D) (e : DiskError) → IsCaused {T = T} (d.faults old) (d.faults new) (d.stopped new) (Err e) → (◌≡◌ {A = Result T DiskError} (Err e) (Err disk.Memory) → ⊥) → HasFailed d old new
  has_failed {T} old new disk.Failed cause not = inl (cause.failed refl)
  has_failed {T} old new disk.Stopped cause not = inr (cause.halted refl)
  has_failed {T} old new disk.Memory cause not = absurd (not refl)

  module _ (logs : List (List ℕ)) where
    -- room was made
    abbrev pub roomy : ℕ → D → D → Type 0
    roomy j old new = IsOnlyRead d old new × has_room d logs j old new

    -- all but the first letter was written
    abbrev pub wrote_part : ℕ → D → D → Type 0
    wrote_part j old new = MayHoldPart d old new × holds_unopened d logs j old new

    -- the first letter was
    abbrev pub wrote_log : ℕ → D → D → Type 0
    wrote_log j old new = may_hold d logs j old new × holds d logs j old new
