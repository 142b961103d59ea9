-- What a Pcom over an empty log is, and why there is none.
use Rattle.std.specs.Prelude.{◌≡◌, false, [], Ok}
use Rattle.ic_base.specs.declared.messages.ComId.{ComId}
use Rattle.ic_base.specs.declared.scenario.Program.{Program}
use Rattle.def_log.specs.Log.{log_of}
use Rattle.def_step.specs.Pcom.{fresh_pcom}
use Rattle.ic_disk.specs.declared.disk.Disk.{Ghosts}
use Rattle.ic_gate.specs.Logs as logs
use Rattle.ic_gate.specs.declared.log.Log.{Log}
use Rattle.ic_gate.specs.declared.refusals.LoadRefused.{LoadRefused}
use Rattle.ic_gate.specs.declared.refusals.LoadWhy.TheVariants.{Memory}
use Rattle.ic_pcom.specs.Views.{component_of, com_of, disk_of, start_of, size_of, is_closed, played_of}
use Rattle.ic_pcom.specs.declared.pcom.Pcom.{Pcom}

module _ {D : Type 0} {d : Ghosts D} where
  -- the first Pcom, over this log
  pub record Starts (program : Program) (c : ComId) (on : Log D d) (new : Pcom D d) : Type 0 where
    pub first : component_of new ≡ fresh_pcom program c
    pub which : com_of new ≡ c
    pub disk : disk_of new ≡ logs.disk_of on
    pub start : start_of new ≡ logs.start_of on
    pub size : size_of new ≡ logs.size_of on
    pub is_open : is_closed new ≡ false
    pub played : played_of new ≡ 0
    pub log : d.tells (disk_of new) → log_of (d.seen (disk_of new)) ≡ Ok []

  -- memory alone is wanting, and the log's disk is handed back
  pub record IsForMemory (log : Log D d) (refused : LoadRefused D) : Type 0 where
    pub why : refused.why ≡ Memory
    pub disk : refused.disk ≡ logs.disk_of log
