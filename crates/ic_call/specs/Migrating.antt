-- How a migration of the logs of a scenario ends.
use Rattle.std.specs.Prelude.{◌≡◌, ◌⊎◌, ℕ, List, [], ◌∷◌, ◌++◌, Option, Some, None}
use Rattle.ic_base.specs.declared.messages.ComId.{ComId}
use Rattle.ic_base.specs.declared.report.Fault.TheVariants.{Usage}
use Rattle.ic_base.specs.declared.refusals.StartWhy.{StartWhy}
use Rattle.ic_base.specs.declared.scenario.Program.{Program}
use Rattle.ic_audit.specs.Audits.{Held, IsScene, EndsWithoutScene}
use Rattle.ic_disk.specs.Causes.{Rose}
use Rattle.ic_disk.specs.declared.disk.Disk as disk
use Rattle.ic_disk.specs.declared.sink.Sink as sink
use Rattle.ic_disk.specs.declared.texts.Texts as texts
use Rattle.ic_migrate.specs.Logged.{logged}
use Rattle.ic_migrate.specs.Migrations.{AreLeftSafe, Migrates, RefusesMigration}
use Rattle.ic_opening.specs.Disks.{EachMeets, IsOnlyRead}
use Rattle.ic_report.specs.Ends.{EndsWith}
use Rattle.ic_report.specs.Migrated.{migrated_lines}
use Rattle.ic_report.specs.Outputs.{if_any, Puts, FailsToPut}
use Rattle.ic_report.specs.declared.ending.Why.{Why}
use Rattle.ic_report.specs.declared.ending.Why.TheVariants.{Fault, Memory}
use Rattle.ic_run.specs.Lending.{lent, left_over, merged}
use Rattle.ic_run.specs.Whys.{why_of_start}

-- the components of a program that have a log
abbrev pub with_logs : Program → List ComId
with_logs p = logged 0 p.components

module _ {D : Type 0} (d : disk.Ghosts D) (program : Program) (fingerprint : List ℕ) (olds now_old news now : List D) where
  -- The old disks of the components with a log were read, and their new disks are safe; the other disks stand in their places.
  pub record KeepsDisks (old_read new_left : List D) : Type 0 where
    pub old_is : now_old ≡ merged program.components (left_over program.components olds) old_read
    pub new_is : now ≡ merged program.components (left_over program.components news) new_left
    pub read : EachMeets (λ i before behind. IsOnlyRead d before behind) (lent program.components olds) old_read
    pub safe : AreLeftSafe d fingerprint (with_logs program) (lent program.components olds) (lent program.components news) new_left

  -- all logs are migrated, with these lines to tell
  pub record MigratesAll (lines : List ℕ) : Type 0 where
    pub old_read : List D
    pub new_left : List D
    pub keeps : KeepsDisks old_read new_left
    pub logs : List (List ℕ)
    pub migrates : Migrates d fingerprint (with_logs program) (lent program.components olds) old_read (lent program.components news) new_left logs
    pub lines_are : lines ≡ migrated_lines program (with_logs program) logs

  -- a migration is refused for this cause, or memory is wanting behind it
  pub record IsRefused (why : Why) : Type 0 where
    pub old_read : List D
    pub new_left : List D
    pub keeps : KeepsDisks old_read new_left
    pub start : StartWhy
    pub cause : (why ≡ Memory) ⊎ ((why ≡ why_of_start fingerprint start) × RefusesMigration d fingerprint (with_logs program) (lent program.components olds) old_read (lent program.components news) new_left start)

  -- Memory is wanting before a disk is touched, or the migration is refused.
  abbrev pub FailsToMigrate : Why → Type 0
  FailsToMigrate why = ((why ≡ Memory) × (now_old ≡ olds) × (now ≡ news)) ⊎ IsRefused why

module _ {D : Type 0} (d : disk.Ghosts D) {K : Type 0} (k : sink.Ghosts K) (olds now_old news now : List D) (before after : K) (status : ℕ) where
  -- no disk is touched
  pub record StayAll : Type 0 where
    pub old : now_old ≡ olds
    pub new : now ≡ news

  -- the lines are printed, if there are any
  abbrev pub Prints : List ℕ → Type 0
  Prints lines = ((status ≡ 0) × Puts k (if_any lines) before after) ⊎ ((status ≡ 9) × FailsToPut k (if_any lines) before after)

  -- The logs of this scenario are migrated and told, or why they aren't is told.
  pub record MigratesOver (tells : Type 0) (held : Held) (name : List ℕ) : Type 0 where
    pub program : Program
    pub fingerprint : List ℕ
    pub scene : tells → IsScene held name program fingerprint
    pub ends : ((lines : List ℕ) × MigratesAll d program fingerprint olds now_old news now lines × Prints lines)
        ⊎ ((why : Why) × FailsToMigrate d program fingerprint olds now_old news now why × EndsWith k (Some program) why before after status)

  module _ {T : Type 0} (t : texts.Ghosts T) (told now_told : T) where
    -- The words are no form; or the named scenario is read once and refused, or its logs are migrated.
    abbrev pub AnswersMigration : Option (List ℕ) → Type 0
    AnswersMigration None = (now_told ≡ told) × StayAll × EndsWith k None (Fault Usage) before after status
    AnswersMigration (Some name) =
        (t.asked now_told ≡ t.asked told ++ name ∷ [])
        × ((StayAll × EndsWithoutScene k (t.tells told) (Rose (t.faults told) (t.faults now_told)) (t.held told) name before after status)
        ⊎ MigratesOver (t.tells told) (t.held told) name)
