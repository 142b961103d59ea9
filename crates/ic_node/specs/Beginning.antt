-- What a component is made of at the beginning of a run, and why there is none.
use Rattle.std.specs.Prelude.{◌≡◌, ℕ, false, List, [], Some, None, Result, Ok, Err, slice_get}
use Rattle.ic_base.specs.declared.messages.ComId.{ComId}
use Rattle.ic_base.specs.declared.record.Record.{Record}
use Rattle.ic_base.specs.declared.scenario.Component.{Component as Declared}
use Rattle.ic_base.specs.declared.scenario.Program.{Program}
use Rattle.def_log.specs.Frame.{fresh}
use Rattle.def_log.specs.Log.{log_of}
use Rattle.def_run.specs.SystemStates.{KeepsLog}
use Rattle.def_step.specs.World.{Down, first_node}
use Rattle.ic_disk.specs.Causes.{Rose}
use Rattle.ic_disk.specs.Disk.{Keeps, CrashLeaves}
use Rattle.ic_disk.specs.TornDisks.{Torn}
use Rattle.ic_disk.specs.declared.disk.Disk.{Ghosts}
use Rattle.ic_gate.specs.declared.refusals.LoadRefused.{LoadRefused}
use Rattle.ic_gate.specs.declared.refusals.LoadWhy.{LoadWhy}
use Rattle.ic_gate.specs.declared.refusals.LoadWhy.TheVariants.{Bad, Foreign, Failed, Stopped, Memory}
use Rattle.ic_node.specs.Loading.{fails_to_load}
use Rattle.ic_node.specs.Meeting.{kept_disk, left_disk}
use Rattle.ic_node.specs.Views.{node_of, disk_of, file_of, com_of, is_over, Tells}
use Rattle.ic_node.specs.declared.component.Component.{Component}

-- no stop is set, nothing is held, and it doesn't stand stopped
pub record IsNew {D : Type 0} (disk : Torn D) : Type 0 where
  pub held : disk.held ≡ []
  pub script : disk.script ≡ None
  pub runs : disk.stopped ≡ false

module _ {D : Type 0} {d : Ghosts D} where
  -- it is this component, up as its program declares it, and its file is a log of no batches
  pub record Starts (program : Program) (c : ComId) (print : List ℕ) (new : Component D d) : Type 0 where
    pub first : (declared : Declared) → slice_get program.components c.0 ≡ Some declared → node_of new ≡ first_node program c declared.kind
    pub which : com_of new ≡ c
    pub going : is_over new ≡ false
    pub fresh : Tells new → file_of new ≡ fresh print c.0
    pub logs : Tells new → KeepsLog print c (file_of new) (Some (node_of new))

  -- it is this component, down over the records that the file holds
  pub record IsFound (c : ComId) (print : List ℕ) (old : D) (new : Component D d) : Type 0 where
    pub records : List Record
    pub down : node_of new ≡ Down records
    pub which : com_of new ≡ c
    pub going : is_over new ≡ false
    pub read : d.tells old → log_of (d.seen old) ≡ Ok records
    pub bytes : d.tells old → file_of new ≡ d.seen old
    pub logs : Tells new → KeepsLog print c (file_of new) (Some (Down records))

  -- the disk is kept, and handed back where there is no component
  abbrev pub KeepsMade : D → Result (Component D d) (LoadRefused D) → Type 0
  KeepsMade old (Ok new) = kept_disk d (Some old) (disk_of new)
  KeepsMade old (Err refused) = Keeps d old refused.disk

  -- a crash meanwhile leaves what it might have left before
  abbrev pub LeavesMade : D → Result (Component D d) (LoadRefused D) → Type 0
  LeavesMade old (Ok new) = left_disk d (Some old) (disk_of new) (d.may_leave old)
  LeavesMade old (Err refused) = CrashLeaves d old refused.disk (d.may_leave old)

module _ {D : Type 0} (b : Ghosts D) where
  abbrev pub fails_to_start : Torn D → Torn D → LoadWhy → Type 0
  fails_to_start old new (Bad place) = ⊥
  fails_to_start old new (Foreign kept) = ⊥
  fails_to_start old new Failed = Rose (b.faults old.inner) (b.faults new.inner)
  fails_to_start old new Stopped = b.stopped new.inner
  fails_to_start old new Memory = Unit {0}

  -- why no log is made
  abbrev pub FailsToStart : Torn D → LoadRefused (Torn D) → Type 0
  FailsToStart old refused = fails_to_start old refused.disk refused.why

  -- why no log is found
  abbrev pub FailsToBeFound : Torn D → List ℕ → ℕ → LoadRefused (Torn D) → Type 0
  FailsToBeFound old given owner refused = fails_to_load b old given owner refused.disk refused.why
