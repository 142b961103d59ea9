-- Why logs of the former format aren't read.
use Rattle.std.specs.Prelude.{◌≡◌, ◌⊎◌, ℕ, List, Err}
use Rattle.ic_base.specs.declared.messages.ComId.{ComId}
use Rattle.ic_base.specs.declared.record.Batch.{Batch}
use Rattle.ic_base.specs.declared.refusals.StartWhy.{StartWhy}
use Rattle.ic_base.specs.declared.refusals.StartWhy.TheVariants.{NotBlank, Bad, Foreign, Failed, Memory}
use Rattle.def_former.specs.Frame.{IsFormerForeign}
use Rattle.def_former.specs.Log.{placed_former_log_of}
use Rattle.ic_disk.specs.declared.disk.Disk.{Ghosts}
use Rattle.ic_former.specs.Refusals.{IsNotForeign}
use Rattle.ic_former.specs.declared.refusals.LoadWhy.{LoadWhy}
use Rattle.ic_former.specs.declared.refusals.LoadWhy.TheVariants as former
use Rattle.ic_opening.specs.Disks.{HasFailed}
use Rattle.ic_opening.specs.Refusals.{FailsAt}
use Rattle.ic_migrate.specs.NewLogs.{IsFormerLog}

-- why the log of a component isn't read
abbrev pub why_of_load : ComId → LoadWhy → StartWhy
why_of_load c (former.Bad place) = Bad c place
why_of_load c (former.Foreign kept) = Foreign c kept
why_of_load c former.Failed = Failed c
why_of_load c former.Stopped = Failed c
why_of_load c former.Memory = Memory

module _ {D : Type 0} (d : Ghosts D) where
  -- the bytes are no log of the former format, or not one of this scenario
  abbrev pub IsNoLog : List ℕ → ComId → D → D → StartWhy → Type 0
  IsNoLog given c old new (NotBlank x) = ⊥
  IsNoLog given c old new (Bad x place) = (x ≡ c) × (d.tells old → (placed_former_log_of (d.seen old) ≡ Err place) × IsNotForeign given (d.seen old))
  IsNoLog given c old new (Foreign x kept) = (x ≡ c) × (d.tells old → IsFormerForeign given (d.seen old) kept)
  IsNoLog given c old new (Failed x) = (x ≡ c) × HasFailed d old new
  IsNoLog given c old new Memory = Unit {0}

  -- the first of several that isn't read, or want of memory
  abbrev pub AreNoLogs : List ℕ → List ComId → List D → List D → StartWhy → Type 0
  AreNoLogs given coms olds news why =
      (why ≡ Memory) ⊎ FailsAt (λ c old new. IsNoLog given c old new why) (λ c x. d.tells x → (bs : List Batch) × IsFormerLog given (d.seen x) bs) coms olds news
