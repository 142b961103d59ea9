-- Why new logs aren't written.
use Rattle.std.specs.Prelude.{◌≡◌, ◌≢◌, ◌<◌, ℕ, List, [], slice_get, Some}
use Rattle.ic_base.specs.declared.messages.ComId.{ComId}
use Rattle.ic_base.specs.declared.refusals.StartWhy.{StartWhy}
use Rattle.ic_base.specs.declared.refusals.StartWhy.TheVariants.{NotBlank, Bad, Foreign, Failed, Memory}
use Rattle.ic_disk.specs.declared.disk.Disk.{Ghosts}
use Rattle.ic_opening.specs.Disks.{HasFailed}

-- At the disk of one component there is a cause, and below it none.
pub record FailsAt {D : Type 0} (cause : ComId → D → D → Type 0) (none : ComId → D → Type 0) (coms : List ComId) (olds news : List D) : Type 0 where
  pub place : ℕ
  pub owner : ComId
  pub old : D
  pub new : D
  pub names : slice_get coms place ≡ Some owner
  pub before : slice_get olds place ≡ Some old
  pub behind : slice_get news place ≡ Some new
  pub is : cause owner old new
  pub below : (i : ℕ) (c : ComId) (x : D) → i < place → slice_get coms i ≡ Some c → slice_get olds i ≡ Some x → none c x

module _ {D : Type 0} (d : Ghosts D) where
  -- why a disk isn't taken for blank
  abbrev pub IsNoBlank : ComId → D → D → StartWhy → Type 0
  IsNoBlank c old new (NotBlank x) = (x ≡ c) × (d.tells old → d.seen old ≢ [])
  IsNoBlank c old new (Bad x place) = ⊥
  IsNoBlank c old new (Foreign x kept) = ⊥
  IsNoBlank c old new (Failed x) = (x ≡ c) × HasFailed d old new
  IsNoBlank c old new Memory = ⊥

  -- the first of several that isn't
  abbrev pub AreNoneBlank : List ComId → List D → List D → StartWhy → Type 0
  AreNoneBlank coms olds news why = FailsAt (λ c old new. IsNoBlank c old new why) (λ c x. d.tells x → d.seen x ≡ []) coms olds news

  -- a new log isn't written, as its disk failed
  abbrev pub IsNotWritten : ComId → D → D → StartWhy → Type 0
  IsNotWritten c old new (Failed x) = (x ≡ c) × HasFailed d old new
  IsNotWritten c old new _ = ⊥

  abbrev pub AreNotWritten : List ComId → List D → List D → StartWhy → Type 0
  AreNotWritten coms olds news why = FailsAt (λ c old new. IsNotWritten c old new why) (λ c x. Unit {0}) coms olds news
