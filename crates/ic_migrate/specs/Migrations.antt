-- What a migration of logs comes to.
use Rattle.std.specs.Prelude.{◌≡◌, ◌⊎◌, ℕ, List, [], slice_get, Some}
use Rattle.ic_base.specs.declared.messages.ComId.{ComId}
use Rattle.ic_base.specs.declared.refusals.StartWhy.{StartWhy}
use Rattle.ic_base.specs.declared.refusals.StartWhy.TheVariants.{Memory}
use Rattle.def_former.specs.Opening.{IsRefused, IsWholeOrRefused}
use Rattle.ic_disk.specs.declared.disk.Disk.{Ghosts}
use Rattle.ic_opening.specs.Disks.{EachMeets, IsOnlyRead}
use Rattle.ic_migrate.specs.NewLogs.{AreNewLogsOf}
use Rattle.ic_migrate.specs.Refusals.{AreNoLogs}
use Rattle.ic_opening.specs.Refusals.{AreNoneBlank, AreNotWritten}
use Rattle.ic_opening.specs.Stages.{may_hold, holds}

-- each image is the whole new log of its component
abbrev pub AreWhole : List (List ℕ) → List (List ℕ) → Type 0
AreWhole logs images = (i : ℕ) (log image : List ℕ) → slice_get logs i ≡ Some log → slice_get images i ≡ Some image → image ≡ log

-- an image is refused by each load
abbrev pub SomeIsRefused : List (List ℕ) → Type 0
SomeIsRefused images = (i : ℕ) × (image : List ℕ) × (slice_get images i ≡ Some image) × IsRefused image

-- each image is the whole new log of its component, or refused
abbrev pub AreWholeOrRefused : List (List ℕ) → List (List ℕ) → Type 0
AreWholeOrRefused logs images = (i : ℕ) (log image : List ℕ) → slice_get logs i ≡ Some log → slice_get images i ≡ Some image → IsWholeOrRefused log image

-- then all new logs are whole, or some new log is refused
abbrev pub AllAreWholeOrSomeIsRefused : Type 0
AllAreWholeOrSomeIsRefused = (logs images : List (List ℕ)) → AreWholeOrRefused logs images → AreWhole logs images ⊎ SomeIsRefused images

module _ {D : Type 0} (d : Ghosts D) where
  -- the disks have no bytes
  abbrev pub AreBlank : List D → Type 0
  AreBlank disks = (i : ℕ) (x : D) → slice_get disks i ≡ Some x → d.tells x → d.seen x ≡ []

  -- no new disk was written; or all were blank, and at each moment a crash leaves of each the whole new log, or nothing that is taken for one
  abbrev pub AreLeftSafe : List ℕ → List ComId → List D → List D → List D → Type 0
  AreLeftSafe fingerprint coms olds news now =
      EachMeets (λ i old new. IsOnlyRead d old new) news now
      ⊎ (AreBlank news × ((logs : List (List ℕ)) × AreNewLogsOf d fingerprint coms olds logs × EachMeets (may_hold d logs) news now))

  -- each new disk was blank and holds the new log of its component, and each old one has the same bytes
  pub record Migrates (fingerprint : List ℕ) (coms : List ComId) (olds now_olds news now : List D) (logs : List (List ℕ)) : Type 0 where
    pub old_same : EachMeets (λ i old new. d.tells old → d.seen new ≡ d.seen old) olds now_olds
    pub blank : AreBlank news
    pub logs_are : AreNewLogsOf d fingerprint coms olds logs
    pub stand : EachMeets (holds d logs) news now

  -- Why logs aren't migrated: a new disk isn't blank; or all are, and an old log isn't read; or all are, and a new one isn't written.
  abbrev pub RefusesMigration : List ℕ → List ComId → List D → List D → List D → List D → StartWhy → Type 0
  RefusesMigration fingerprint coms olds now_olds news now why =
      AreNoneBlank d coms news now why
      ⊎ (AreBlank news × (AreNoLogs d fingerprint coms olds now_olds why ⊎ (((logs : List (List ℕ)) × AreNewLogsOf d fingerprint coms olds logs) × ((why ≡ Memory) ⊎ AreNotWritten d coms news now why))))
