-- The writes of a Tcom's open sessions are such as a log has them.
use Rattle.std.specs.Prelude.{◌≤◌, ◌<◌, ◌^◌, List, length, FitsSigned}
use Rattle.std.specs.Int.{w64}
use Rattle.std.specs.List.{AllByRecursion}
use Rattle.ic_base.specs.declared.limits.TheConstants.{REQUESTS}
use Rattle.ic_base.specs.declared.messages.Packet.{Packet}
use Rattle.ic_base.specs.declared.messages.Packet.TheVariants.{Op}
use Rattle.ic_base.specs.declared.messages.Request.{Request}
use Rattle.ic_base.specs.declared.messages.Request.TheVariants.{Get, Put}
use Rattle.def_log.specs.Spelling.{IsWrite}
use Rattle.def_step.specs.Tcom.{Sitting}
use Rattle.ic_disk.specs.declared.disk.Disk.{Ghosts}
use Rattle.ic_tcom.specs.Views as tcoms
use Rattle.ic_node.specs.declared.node.Node.{Node}
use Rattle.ic_node.specs.declared.node.Node.TheVariants.{Per, Tra, Off, Ext}

-- no more writes than answers, no more answers than a transaction may have requests, and each write fits
pub record SittingFits (s : Sitting) : Type 0 where
  pub few : length s.writes ≤ length s.answers
  pub within : length s.answers ≤ REQUESTS
  pub each : AllByRecursion IsWrite s.writes

abbrev pub SittingsFit : List Sitting → Type 0
SittingsFit ss = AllByRecursion SittingFits ss

-- the open sessions of a Tcom that is up
abbrev pub AreWritable : {D : Type 0} {d : Ghosts D} → Node D d → Type 0
AreWritable (Per p) = Unit {0}
AreWritable (Tra t) = SittingsFit (tcoms.component_of t).sittings
AreWritable (Off disk) = Unit {0}
AreWritable Ext = Unit {0}

-- what a packet asks to write has the range of its type
abbrev pub RequestFits : Request → Type 0
RequestFits (Get key) = Unit {0}
RequestFits (Put key value) = (key < 2 ^ 16) × FitsSigned w64 value

abbrev pub AsksFit : Packet → Type 0
AsksFit (Op from to n place session request) = RequestFits request
AsksFit _ = Unit {0}
