-- What a takeover comes to at a Pcom that is down.
use Rattle.std.specs.Prelude.{◌≡◌, ℕ, ◌+◌, true, false, List, length, drop, Some, Result, Ok, Err}
use Rattle.ic_base.specs.declared.messages.ComId.{ComId}
use Rattle.ic_base.specs.declared.record.Record.{Record}
use Rattle.ic_base.specs.declared.scenario.Program.{Program}
use Rattle.def_log.specs.Frame.{IsForeign}
use Rattle.def_log.specs.Log.{log_of}
use Rattle.def_run.specs.CoreSteps.{forced_of}
use Rattle.def_standby.specs.Standbys.{play_all}
use Rattle.def_standby.specs.TakeOvers.{taken_over}
use Rattle.def_state.specs.Hist.{Contents}
use Rattle.def_state.specs.Vol.{Vol}
use Rattle.def_step.specs.World.{Runs}
use Rattle.ic_disk.specs.TornDisks.{Torn}
use Rattle.ic_disk.specs.Torns.{file, torn, is_working}
use Rattle.ic_disk.specs.declared.disk.Disk.{Ghosts}
use Rattle.ic_gate.specs.declared.refusals.LoadRefused.{LoadRefused}
use Rattle.ic_pcom.specs.Adopting.{stop_in}
use Rattle.ic_pcom.specs.Views as pcoms
use Rattle.ic_pcom.specs.declared.pcom.Pcom.{Pcom}
use Rattle.ic_node.specs.ComingUp.{fails_to_come_up}
use Rattle.ic_node.specs.Faults.{HasFault}
use Rattle.ic_node.specs.Meeting.{GoesOn, Rests}
use Rattle.ic_node.specs.Views.{node_of, file_of, com_of, Tells}
use Rattle.ic_node.specs.declared.component.Component.{Component}
use Rattle.ic_node.specs.declared.done.NodeRefused.{NodeRefused}
use Rattle.ic_node.specs.declared.done.NodeRefused.TheVariants.{Full, Bad, Foreign, Failed, Memory}

-- its disk, which is handed back where there is no Pcom
abbrev pub pcom_disk : {D : Type 0} {d : Ghosts D} → Result (Pcom D d) (LoadRefused D) → D
pcom_disk (Ok up) = pcoms.disk_of up
pcom_disk (Err refused) = refused.disk

module _ {D : Type 0} (b : Ghosts D) where
  abbrev pub PcomFails : Program → ComId → Contents → Vol → ℕ → Torn D → List ℕ → LoadRefused (Torn D) → Type 0
  PcomFails program c contents v have old print refused = fails_to_come_up b (λ bytes place. stop_in program c contents v have bytes ≡ Some place) old print refused.disk refused.why

  module _ {d : Ghosts (Torn D)} where
    -- the Pcom is its standby over the log on the disk; the file stays
    pub record PcomIsOver (program : Program) (c : ComId) (contents : Contents) (v : Vol) (have : ℕ) (old : Torn D) (up : Pcom (Torn D) d) : Type 0 where
      pub records : List Record
      pub state : Vol
      pub plays : play_all program c contents v (drop have records) ≡ Some state
      pub leads : pcoms.component_of up ≡ taken_over records state
      pub read : b.tells old.inner → log_of (file b old) ≡ Ok records
      pub bytes : b.tells old.inner → file b (pcoms.disk_of up) ≡ file b old
      pub played : pcoms.played_of up + have ≡ length records
      pub which : pcoms.com_of up ≡ c
      pub is_open : pcoms.is_closed up ≡ false
      pub works : is_working (torn b) (pcoms.disk_of up) ≡ true

module _ {D : Type 0} {d : Ghosts D} where
  -- It is up as its standby over the records that its disk gave, which are those that it held where the disk tells. Of those behind
  -- the first `have` each was played once. The file stays.
  pub record TakesOver (program : Program) (old : Component D d) (contents : Contents) (v : Vol) (have : ℕ) (new : Component D d) (played : ℕ) : Type 0 where
    pub found : List Record
    pub state : Vol
    pub plays : play_all program (com_of old) contents v (drop have found) ≡ Some state
    pub up : node_of new ≡ Runs (taken_over found state)
    pub count : played + have ≡ length found
    pub reads : Tells old → found ≡ forced_of (Some (node_of old))
    pub file : Tells old → file_of new ≡ file_of old
    pub goes_on : GoesOn old new

module _ {D : Type 0} (b : Ghosts D) {d : Ghosts (Torn D)} where
  -- why it isn't taken over
  abbrev pub FailsToTakeOver : Program → List ℕ → Component (Torn D) d → Contents → Vol → ℕ → Component (Torn D) d → NodeRefused → Type 0
  FailsToTakeOver program given old contents v have new Full = ⊥
  FailsToTakeOver program given old contents v have new (Bad place) = Tells old → stop_in program (com_of old) contents v have (file_of old) ≡ Some place
  FailsToTakeOver program given old contents v have new (Foreign kept) = Tells old → IsForeign given (file_of old) kept
  FailsToTakeOver program given old contents v have new Failed = HasFault b old new
  FailsToTakeOver program given old contents v have new Memory = Rests new
