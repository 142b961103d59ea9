-- The world over which a served run opens.
use Rattle.std.specs.Prelude.{◌≡◌, ◌⊎◌, ⊤, ℕ, List}
use Rattle.ic_base.specs.declared.messages.ComId.{ComId}
use Rattle.ic_base.specs.declared.refusals.StartWhy.{StartWhy}
use Rattle.ic_base.specs.declared.refusals.StartWhy.TheVariants as starts
use Rattle.ic_base.specs.declared.scenario.Program.{Program}
use Rattle.ic_disk.specs.TornDisks.{Torn}
use Rattle.ic_disk.specs.Torns.{torn}
use Rattle.ic_disk.specs.declared.disk.Disk as disk
use Rattle.ic_world.specs.Opening.{Starts, Finds, FailsToStart, FailsToFind}
use Rattle.ic_world.specs.declared.opening.StartRefused.{StartRefused}
use Rattle.ic_world.specs.declared.world.World.{World}

-- another cause than a disk that isn't blank
abbrev pub IsOther : StartWhy → Type 0
IsOther (starts.NotBlank c) = ⊥
IsOther why = ⊤

module _ {D : Type 0} (b : disk.Ghosts D) (program : Program) (print : List ℕ) where
  -- a disk isn't blank, so no world starts over them
  pub record IsBegun (disks : List D) (asked : StartRefused D) : Type 0 where
    pub who : ComId
    pub why : asked.why ≡ starts.NotBlank who
    pub fails : FailsToStart b program disks asked

  -- over blank disks a world starts, else one takes up the logs that stand there
  abbrev pub Opens : List D → World (Torn D) (torn b) → Type 0
  Opens disks new = Starts b program print disks new ⊎ ((asked : StartRefused D) × IsBegun disks asked × Finds b program print asked.disks.items new)

  -- why there is none
  abbrev pub FailsToOpen : List D → StartRefused D → Type 0
  FailsToOpen disks refused = (FailsToStart b program disks refused × IsOther refused.why) ⊎ ((asked : StartRefused D) × IsBegun disks asked × FailsToFind b program print asked.disks.items refused)
