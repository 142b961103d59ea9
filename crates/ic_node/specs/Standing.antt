-- What holds of a component between events.
use Rattle.std.specs.Prelude.{ℕ, Bool, true, not, ◌||◌, List, [], Option, Some, None, Result, Ok, Err}
use Rattle.ic_base.specs.declared.messages.ComId.{ComId}
use Rattle.ic_base.specs.declared.record.Record.{Record}
use Rattle.def_log.specs.Frame.{owner_in}
use Rattle.def_log.specs.Log.{log_of}
use Rattle.def_step.specs.Replay.{has_image}
use Rattle.def_step.specs.Room.{is_empty}
use Rattle.ic_disk.specs.declared.disk.Disk.{Ghosts}
use Rattle.ic_pcom.specs.Views as pcoms
use Rattle.ic_tcom.specs.Views as tcoms
use Rattle.ic_disk.specs.Torns.{is_working}
use Rattle.ic_node.specs.declared.node.Node.{Node}
use Rattle.ic_node.specs.declared.node.Node.TheVariants.{Per, Tra, Off, Ext}

-- the records that were read, or none
abbrev pub read_or_none : Result (List Record) ℕ → List Record
read_or_none (Ok rs) = rs
read_or_none (Err place) = []

module _ {D : Type 0} (d : Ghosts D) where
  abbrev pub works : Node D d → Bool
  works (Per p) = is_working d (pcoms.disk_of p)
  works (Tra t) = is_working d (tcoms.disk_of t)
  works (Off disk) = is_working d disk
  works Ext = true

  -- nothing waits for a sync
  abbrev pub is_settled : Node D d → Bool
  is_settled (Per p) = d.settled (pcoms.disk_of p)
  is_settled (Tra t) = d.settled (tcoms.disk_of t)
  is_settled (Off disk) = d.settled disk
  is_settled Ext = true

  -- the records that its file holds
  abbrev pub log_in : Node D d → Result (List Record) ℕ
  log_in (Per p) = log_of (d.seen (pcoms.disk_of p))
  log_in (Tra t) = log_of (d.seen (tcoms.disk_of t))
  log_in (Off disk) = log_of (d.seen disk)
  log_in Ext = Ok []

  -- the number of the component whose log a disk holds, and this one where there is no disk
  abbrev pub owner_on : ℕ → Option D → ℕ
  owner_on n None = n
  owner_on n (Some disk) = owner_in (d.seen disk)

  abbrev pub keeps_of : Option D → Type 0
  keeps_of None = Unit {0}
  keeps_of (Some disk) = d.keeps disk

  -- what a crash may leave of its disk
  abbrev pub leave_of : Option D → List ℕ → Type 0
  leave_of None image = ⊥
  leave_of (Some disk) image = d.may_leave disk image

module _ {D : Type 0} {d : Ghosts D} where
  -- it isn't closed
  abbrev pub is_open : Node D d → Bool
  is_open (Per p) = not (pcoms.is_closed p)
  is_open (Tra t) = not (tcoms.is_closed t)
  is_open (Off disk) = true
  is_open Ext = true

  -- which component it is; where the node doesn't say, the given one
  abbrev pub com_in : ComId → Node D d → ComId
  com_in c (Per p) = pcoms.com_of p
  com_in c (Tra t) = tcoms.com_of t
  com_in c (Off disk) = c
  com_in c Ext = c

  -- its own records of a Pcom that is up are all of its log, or have a checkpoint
  abbrev pub is_begun : List Record → Node D d → Bool
  is_begun kept (Per p) = is_empty kept || has_image (pcoms.component_of p).log.forced
  is_begun kept (Tra t) = true
  is_begun kept (Off disk) = true
  is_begun kept Ext = true
