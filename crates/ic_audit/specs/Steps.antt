-- One component's log among several disks, and which of several is told.
use Rattle.std.specs.Prelude.{◌≡◌, ℕ, ◌<◌, List, slice_get, slice_set, Some, Result, Ok, IfOk, IfErr}
use Rattle.ic_base.specs.declared.messages.ComId.{ComId}
use Rattle.ic_base.specs.declared.messages.Kind.{Kind}
use Rattle.ic_base.specs.declared.record.Record.{Record}
use Rattle.ic_base.specs.declared.scenario.Component.{Component}
use Rattle.ic_disk.specs.declared.disk.Disk.{Ghosts}
use Rattle.ic_report.specs.declared.ending.Why.{Why}
use Rattle.ic_audit.specs.Disks.{Refuses, HasFailed, HasFailedAt, IsLookedAt}
use Rattle.ic_audit.specs.Logs.{log_in}

module _ {D : Type 0} (d : Ghosts D) where
  -- the disk of a component was looked at, and the others stand; its log was read, or is refused
  pub record ReadsLogAt (kind : Kind) (given : List ℕ) (c : ComId) (olds news : List D) (result : Result (List Record) Why) : Type 0 where
    pub old : D
    pub there : slice_get olds c.0 ≡ Some old
    pub new : D
    pub stands : news ≡ slice_set olds c.0 new
    pub looked : IsLookedAt d old new
    pub log : d.tells old → IfOk result (λ log. log_in kind given c (d.seen old) ≡ Ok log)
    pub refused : IfErr result (Refuses (d.tells old) (λ x. (x ≡ c) × HasFailed d old new) (log_in kind given c (d.seen old)))

  -- the log of each component below this number is there, on a disk that tells
  abbrev pub HoldLogs : List ℕ → List Component → List D → ℕ → Type 0
  HoldLogs given xs disks count = (j : ℕ) (x : Component) (disk : D) → j < count → slice_get xs j ≡ Some x → slice_get disks j ≡ Some disk → d.tells disk → (log : List Record) × (log_in x.kind given (record { 0 = j }) (d.seen disk) ≡ Ok log)

  -- The disk of this component failed, and each lower component has its log: of disks that fail or are bad the lowest is told.
  pub record IsFirstToFail (given : List ℕ) (xs : List Component) (olds news : List D) (c : ComId) : Type 0 where
    pub failed : HasFailedAt d olds news c
    pub below : HoldLogs given xs olds c.0
