-- What a disk decides of an event, tied to the bytes that it reads.
use Rattle.std.specs.Prelude.{◌≡◌, ℕ, ◌-◌, nat_lt, true, false, List, [], drop, length, Option, Some, None, Ok}
use Rattle.ic_base.specs.declared.events.Answer.{Answer}
use Rattle.ic_base.specs.declared.events.Stop.{Stop}
use Rattle.ic_base.specs.declared.limits.TheConstants.{SLOTS}
use Rattle.ic_base.specs.declared.messages.ComId.{ComId}
use Rattle.ic_base.specs.declared.record.Record.{Record}
use Rattle.ic_base.specs.declared.scenario.Program.{Program}
use Rattle.def_log.specs.Directory.{slots_in}
use Rattle.def_log.specs.Images.{LeavesJust}
use Rattle.def_log.specs.Log.{log_of}
use Rattle.def_log.specs.Sizes.{size_in}
use Rattle.def_step.specs.World.{Node, Done, DiskOutcome}
use Rattle.def_run.specs.CoreSteps.{forced_of, is_stopped, loads_first, IsTornAt}
use Rattle.def_run.specs.SystemStates.{KeepsLog}
use Rattle.ic_disk.specs.Disk.{Keeps, CrashLeaves}
use Rattle.ic_disk.specs.declared.disk.Disk.{Ghosts}
use Rattle.ic_gate.specs.RecordFiles.{IsBeforeOrBehind}
use Rattle.ic_node.specs.Nodes.{read_of}
use Rattle.ic_node.specs.Standing.{keeps_of, leave_of}
use Rattle.ic_node.specs.Views.{node_of, disk_of, file_of, com_of, is_over, Tells}
use Rattle.ic_node.specs.declared.component.Component.{Component}

-- the records that a component has forced behind an event, beyond those before it
abbrev pub adds_in : Node → Option Done → List Record
adds_in node None = []
adds_in node (Some d) = drop (length (forced_of (Some node))) (forced_of (Some d.node))

-- what a reached stop leaves of a file
abbrev pub IsTornBy : DiskOutcome → Option Stop → ℕ → List Record → List ℕ → List ℕ → Type 0
IsTornBy x None loads added old new = ⊥
IsTornBy x (Some stop) loads added old new = IsTornAt x stop loads (x.size - 1) added old new

-- The file decides what a load reads and what a stop leaves. A step that forces nothing leaves it.
pub record Meets (program : Program) (c : ComId) (x : DiskOutcome) (stop : Option Stop) (added : List Record) (answer : Answer) (before after : Node) (old new : List ℕ) : Type 0 where
  pub found : log_of old ≡ Ok x.found
  pub size : size_in old ≡ Some x.size
  pub free : x.free ≡ nat_lt (length (slots_in old)) SLOTS
  pub torn : is_stopped answer ≡ true → IsTornBy x stop (loads_first program c (Some before)) added old new
  pub same : is_stopped answer ≡ false → forced_of (Some after) ≡ forced_of (Some before) → new ≡ old

module _ {D : Type 0} (d : Ghosts D) where
  abbrev pub where_told : Option D → Type 0 → Type 0
  where_told None P = Unit {0}
  where_told (Some disk) P = d.tells disk → P

  abbrev pub kept_disk : Option D → Option D → Type 0
  kept_disk None None = Unit {0}
  kept_disk (Some old) (Some new) = Keeps d old new
  kept_disk None (Some new) = ⊥
  kept_disk (Some old) None = ⊥

  -- a crash leaves just what a read gives
  abbrev pub rests_on : Option D → Type 0
  rests_on disk = keeps_of d disk → LeavesJust (leave_of d disk) (read_of d disk)

  abbrev pub left_disk : Option D → Option D → (List ℕ → Type 0) → Type 0
  left_disk None None P = Unit {0}
  left_disk (Some old) (Some new) P = CrashLeaves d old new P
  left_disk None (Some new) P = ⊥
  left_disk (Some old) None P = ⊥

module _ {D : Type 0} {d : Ghosts D} where
  -- its disk is kept, if it has one
  abbrev pub KeepsDisk : Component D d → Component D d → Type 0
  KeepsDisk old new = kept_disk d (disk_of old) (disk_of new)

  -- a crash at each moment leaves the forced records, or these with all that are added
  abbrev pub CrashAdds : List Record → Component D d → Component D d → Type 0
  CrashAdds added old new = left_disk d (disk_of old) (disk_of new) (IsBeforeOrBehind (file_of old) (forced_of (Some (node_of old))) added)

  -- what the disk decides is tied to what it reads, where it tells this
  abbrev pub MeetsDisk : Program → DiskOutcome → Option Stop → List Record → Component D d → Component D d → Answer → Type 0
  MeetsDisk program x stop added old new answer = where_told d (disk_of old) (Meets program (com_of old) x stop added answer (node_of old) (node_of new) (file_of old) (file_of new))

  -- It is the same component, and goes on. Where the file held the log of this fingerprint with the forced records, it does so again.
  pub record GoesOn (old new : Component D d) : Type 0 where
    pub same : com_of new ≡ com_of old
    pub open_still : is_over new ≡ false
    pub logs : Tells old → (print : List ℕ) → KeepsLog print (com_of old) (file_of old) (Some (node_of old)) → KeepsLog print (com_of new) (file_of new) (Some (node_of new))

  abbrev pub Rests : Component D d → Type 0
  Rests x = rests_on d (disk_of x)

  -- the component is as it was, and so is its file; a crash leaves just that
  pub record IsUnmoved (old new : Component D d) : Type 0 where
    pub node : node_of new ≡ node_of old
    pub file : Tells old → file_of new ≡ file_of old
    pub rests : Rests new
