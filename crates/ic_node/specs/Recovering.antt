-- What a recovery and a crash come to at a component with its disk.
use Rattle.std.specs.Prelude.{◌≡◌, ℕ, nat_lt, false, List, [], length, Option, Some, None, unwrap_or}
use Rattle.ic_base.specs.declared.events.Stop.{Stop}
use Rattle.ic_base.specs.declared.limits.TheConstants.{SLOTS}
use Rattle.ic_base.specs.declared.record.Record.{Record}
use Rattle.ic_base.specs.declared.refusals.WorldRefused.TheVariants as refused
use Rattle.ic_base.specs.declared.scenario.Program.{Program}
use Rattle.def_log.specs.Directory.{slots_in}
use Rattle.def_log.specs.Frame.{IsForeign}
use Rattle.def_log.specs.Sizes.{size_in}
use Rattle.def_run.specs.CoreSteps.{forced_of}
use Rattle.def_run.specs.Refusals.{down_refusal}
use Rattle.def_run.specs.Reports.{played_by}
use Rattle.def_step.specs.World.{DiskOutcome, recovers, crashes}
use Rattle.ic_disk.specs.TornDisks.{Torn}
use Rattle.ic_disk.specs.declared.disk.Disk.{Ghosts}
use Rattle.ic_node.specs.Calling.{done_with}
use Rattle.ic_node.specs.Faults.{HasFault}
use Rattle.ic_node.specs.Meeting.{adds_in, MeetsDisk, GoesOn, Rests}
use Rattle.ic_node.specs.Views.{node_of, disk_of, file_of, com_of, Tells}
use Rattle.ic_node.specs.declared.component.Component.{Component}
use Rattle.ic_node.specs.declared.done.Done.{Done}
use Rattle.ic_node.specs.declared.done.NodeRefused.{NodeRefused}
use Rattle.ic_node.specs.declared.done.NodeRefused.TheVariants.{Full, Bad, Foreign, Failed, Memory}

module _ {D : Type 0} {d : Ghosts D} where
  -- what a load reads where the disk holds the forced records
  abbrev pub held_by : Component D d → DiskOutcome
  held_by x = record { found = forced_of (Some (node_of x)); size = unwrap_or (size_in (file_of x)) 0; free = nat_lt (length (slots_in (file_of x))) SLOTS; left = []; is_open = false }

  -- the records that the recovery would force without a stop
  abbrev pub would_begin : Program → Component D d → List Record
  would_begin program x = adds_in (node_of x) (recovers program (com_of x) None (held_by x) (node_of x))

  -- the component and what is told are those of the recovery of the definition, or of the stop that cut it off
  pub record Recovers (program : Program) (old : Component D d) (stop : Option Stop) (new : Component D d) (done : Done) : Type 0 where
    pub outcome : DiskOutcome
    pub step : recovers program (com_of old) stop outcome (node_of old) ≡ Some (done_with (node_of new) done)
    pub meets : MeetsDisk program outcome stop (adds_in (node_of old) (recovers program (com_of old) None outcome (node_of old))) old new done.answer
    pub played : done.played ≡ played_by (node_of old) (node_of new)
    pub goes_on : GoesOn old new

  -- its disk alone is left
  pub record Crashes (old new : Component D d) (done : Done) : Type 0 where
    pub step : crashes (node_of old) ≡ done_with (node_of new) done
    pub disk : disk_of new ≡ disk_of old
    pub played : done.played ≡ 0
    pub goes_on : GoesOn old new

module _ {D : Type 0} (b : Ghosts D) {d : Ghosts (Torn D)} where
  -- why it isn't recovered
  abbrev pub FailsToRecover : Program → List ℕ → Component (Torn D) d → Option Stop → Component (Torn D) d → NodeRefused → Type 0
  FailsToRecover program given old stop new Full = ⊥
  FailsToRecover program given old stop new (Bad place) = Tells old → down_refusal program given (com_of old) stop (file_of old) (node_of old) ≡ Some (refused.Bad (com_of old) place)
  FailsToRecover program given old stop new (Foreign kept) = Tells old → IsForeign given (file_of old) kept
  FailsToRecover program given old stop new Failed = HasFault b old new
  FailsToRecover program given old stop new Memory = Rests new
