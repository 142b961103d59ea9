-- The front that the logs of a world tell of.
use Rattle.std.specs.Prelude.{◌≡◌, Ok, Err}
use Rattle.def_client.specs.Rebuilding.{front_of}
use Rattle.def_plain.specs.History.{history_of}
use Rattle.def_plain.specs.Plain.{PlainWorld, plain_run_of}
use Rattle.def_run.specs.Reports.{logs_of}
use Rattle.ic_base.specs.declared.report.Fault.TheVariants as faults
use Rattle.ic_base.specs.declared.scenario.Program.{Program}
use Rattle.ic_client.specs.Fronts.{FrontState}
use Rattle.ic_client.specs.Seeing.{TakenAlike}
use Rattle.ic_disk.specs.declared.disk.Disk as disk
use Rattle.ic_report.specs.declared.ending.Why.{Why}
use Rattle.ic_report.specs.declared.ending.Why.TheVariants.{Fault, Print, Memory}
use Rattle.ic_world.specs.Views.{world_of}
use Rattle.ic_world.specs.declared.world.World.{World}

module _ {D : Type 0} {d : disk.Ghosts D} where
  -- it answers as the one that the logs tell of, with the replies that their crash-free world has
  pub record IsOfLogs (program : Program) (w : World D d) (f : FrontState) : Type 0 where
    pub plain : PlainWorld
    pub runs : plain_run_of program (history_of program (logs_of (world_of w))) ≡ Ok plain
    pub front : TakenAlike f.taken (front_of plain (logs_of (world_of w)))

  -- there is no crash-free world of the logs, since their history isn't legal; or memory was wanting
  abbrev pub RefusesLogs : Program → World D d → Why → Type 0
  RefusesLogs program w (Fault (faults.Illegal entry)) = plain_run_of program (history_of program (logs_of (world_of w))) ≡ Err entry
  RefusesLogs program w (Fault fault) = ⊥
  RefusesLogs program w Print = ⊥
  RefusesLogs program w Memory = Unit {0}
