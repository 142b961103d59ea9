-- Where a run opens, given what the disks of its components read.
use Rattle.std.specs.Prelude.{◌≡◌, ℕ, List, Option}
use Rattle.ic_base.specs.declared.record.Record.{Record}
use Rattle.ic_base.specs.declared.refusals.StartWhy.{StartWhy}
use Rattle.ic_base.specs.declared.scenario.Program.{Program}
use Rattle.def_run.specs.Openings.{IsStarted, IsFound, found_world, start_refusal, found_refusal, BeginsSound}
use Rattle.def_run.specs.SystemStates.{SystemState}
use Rattle.def_step.specs.World.{World, first_world}
use Rattle.ic_disk.specs.declared.disk.Disk.{Ghosts}
use Rattle.ic_run.specs.Lending.{lent}
use Rattle.ic_world.specs.Opening as opens
use Rattle.ic_run.specs.declared.opening.Opening.{Opening}
use Rattle.ic_run.specs.declared.opening.Opening.TheVariants.{Anew, Found}

-- all components up over logs that were made on blank disks, or down over the logs that were found
abbrev pub IsOpened : Opening → Program → List ℕ → List (List ℕ) → SystemState → Type 0
IsOpened Anew program fingerprint files p = IsStarted program fingerprint files p
IsOpened Found program fingerprint files p = IsFound program fingerprint files p

-- the world, whatever the disks tell: all up at their declared values, or all down over some logs
abbrev pub BeginsAs : Opening → Program → World → Type 0
BeginsAs Anew program w = w ≡ first_world program
BeginsAs Found program w = (logs : List (List Record)) × (w ≡ found_world program logs)

-- what the disks hold that lets no run open
abbrev pub opening_refusal : Opening → Program → List ℕ → List (List ℕ) → Option StartWhy
opening_refusal Anew program fingerprint files = start_refusal program files
opening_refusal Found program fingerprint files = found_refusal program fingerprint files

module _ {D : Type 0} (b : Ghosts D) where
  -- what the disks of the components read, each at the place of its own; an Xcom has none
  abbrev pub files_on : Program → List D → List (List ℕ)
  files_on program disks = opens.files_on b program (lent program.components disks)

  -- the disks of all components tell their bytes
  abbrev pub TheyTell : Program → List D → Type 0
  TheyTell program disks = opens.AllTell b (lent program.components disks)

  -- the disks tell their bytes, and in p a run begins over them soundly: anew, or taken up over logs that are sound together
  abbrev pub OpensSound : Program → List ℕ → List D → SystemState → Type 0
  OpensSound program fingerprint disks p = TheyTell program disks × BeginsSound program fingerprint (files_on program disks) p
