-- A world that is renewed over its disks.
use Rattle.std.specs.Prelude.{◌≡◌, length}
use Rattle.ic_base.specs.declared.scenario.Program.{Program}
use Rattle.ic_disk.specs.TornDisks.{Torn}
use Rattle.ic_disk.specs.Torns.{torn}
use Rattle.ic_disk.specs.declared.disk.Disk.{Ghosts}
use Rattle.ic_world.specs.Allowing.{IsMadeFor}
use Rattle.ic_world.specs.Opening.{Finds, disks_under}
use Rattle.ic_world.specs.Views.{components_of, world_of, print_of}
use Rattle.ic_world.specs.declared.world.World.{World}

-- for each program that the old world was made for, with as many components, the new one is the world that takes up the logs of the old
-- one's disks
abbrev pub Renews : {D : Type 0} (b : Ghosts D) → World (Torn D) (torn b) → World (Torn D) (torn b) → Type 0
Renews b old new = (program : Program) → IsMadeFor program (world_of old) → length (components_of old) ≡ length program.components → Finds b program (print_of old) (disks_under (components_of old)) new
