-- What a recovery of a persistent component comes to, and why there is none.
use Rattle.std.specs.Prelude.{◌≡◌, ℕ, List, Result, Ok, Err}
use Rattle.ic_base.specs.declared.messages.ComId.{ComId}
use Rattle.ic_base.specs.declared.scenario.Program.{Program}
use Rattle.def_log.specs.Log.{Placed, records_in}
use Rattle.ic_disk.specs.declared.disk.Disk.{Ghosts}
use Rattle.ic_gate.specs.Logs.{disk_of}
use Rattle.ic_gate.specs.Reading.{IsUnmoved}
use Rattle.ic_gate.specs.declared.refusals.LoadRefused.{LoadRefused}
use Rattle.ic_gate.specs.declared.refusals.LoadWhy.{LoadWhy}
use Rattle.ic_gate.specs.declared.refusals.LoadWhy.TheVariants.{Failed, Stopped}
use Rattle.ic_replay.specs.Replaying.{Begins}
use Rattle.ic_gate.specs.RecordLoads.{LoadsTailRecords}
use Rattle.ic_pcom.specs.Places.{places_of}
use Rattle.ic_pcom.specs.Recovering.{RefusesToComeUp}
use Rattle.ic_pcom.specs.declared.restored.Restored.{Restored}

module _ {D : Type 0} {d : Ghosts D} where
  -- the log's disk, which is handed back where nothing is restored
  abbrev pub disk_left : Result (Restored D d) (LoadRefused D) → D
  disk_left (Ok restored) = disk_of restored.log
  disk_left (Err refused) = refused.disk

module _ {D : Type 0} (d : Ghosts D) where
  -- the tail of the log is loaded, and the replay of its records is begun
  pub record Restores (program : Program) (c : ComId) (old : D) (fingerprint : List ℕ) (new : Restored D d) : Type 0 where
    pub placed : List Placed
    pub loads : LoadsTailRecords d old fingerprint c.0 (new.log, placed)
    pub places : new.places ≡ places_of placed
    pub begins : Begins program c (records_in placed) new.replay

  -- why nothing is restored, and what then stands: as where no component comes up; a load that is cut short also leaves the bytes as they
  -- were
  abbrev pub RefusesToRestore : Program → ComId → D → List ℕ → D → LoadWhy → Type 0
  RefusesToRestore program c old fingerprint new Failed = RefusesToComeUp d program c old fingerprint new Failed × IsUnmoved d old new
  RefusesToRestore program c old fingerprint new Stopped = RefusesToComeUp d program c old fingerprint new Stopped × IsUnmoved d old new
  RefusesToRestore program c old fingerprint new why = RefusesToComeUp d program c old fingerprint new why
