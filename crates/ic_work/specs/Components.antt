-- What the work of one component comes to.
use Rattle.std.specs.Prelude.{◌≡◌, ℕ, false, List, [], Option, Some}
use Rattle.ic_base.specs.declared.messages.ComId.{ComId}
use Rattle.ic_base.specs.declared.record.Record.{Record}
use Rattle.ic_base.specs.declared.refusals.WorldRefused.{WorldRefused}
use Rattle.ic_base.specs.declared.refusals.WorldRefused.TheVariants as refused
use Rattle.ic_base.specs.declared.events.Stop.{Stop}
use Rattle.ic_base.specs.declared.scenario.Program.{Program}
use Rattle.def_run.specs.Reports.{played_by}
use Rattle.def_step.specs.World.{DiskOutcome}
use Rattle.ic_disk.specs.TornDisks.{Torn}
use Rattle.ic_disk.specs.declared.disk.Disk.{Ghosts}
use Rattle.ic_node.specs.Calling.{done_with}
use Rattle.ic_node.specs.Doing.{IsFull, FailsToDo, would_force}
use Rattle.ic_node.specs.Meeting.{MeetsDisk, GoesOn, Rests}
use Rattle.ic_node.specs.Recovering.{FailsToRecover, would_begin}
use Rattle.ic_node.specs.Views.{node_of, com_of}
use Rattle.ic_node.specs.declared.component.Component.{Component}
use Rattle.ic_node.specs.declared.done.Done.{Done}
use Rattle.ic_node.specs.declared.done.NodeRefused.{NodeRefused}
use Rattle.ic_node.specs.declared.done.NodeRefused.TheVariants.{Full, Bad, Foreign, Failed, Memory}
use Rattle.ic_work.specs.Tasks.{work_done}
use Rattle.ic_work.specs.Working.{work_of, adds_of}
use Rattle.ic_work.specs.declared.work.Work.{Work}
use Rattle.ic_work.specs.declared.work.Work.TheVariants.{Calls, Crashes, Recovers}

-- a refusal of a component as one of the world
abbrev pub refusal_of : ComId → NodeRefused → WorldRefused
refusal_of c Full = refused.LogFull c
refusal_of c (Bad place) = refused.Bad c place
refusal_of c (Foreign kept) = refused.Foreign c kept
refusal_of c Failed = refused.Failed c
refusal_of c Memory = refused.Memory

module _ {D : Type 0} {d : Ghosts D} where
  -- the records that the work would force without a stop
  abbrev pub would_add : Program → Component D d → Work → List Record
  would_add program x (Calls number call) = would_force program x number call
  would_add program x Crashes = []
  would_add program x Recovers = would_begin program x

  -- a call passes no limit
  abbrev pub HasRoom : Program → Component D d → Work → Type 0
  HasRoom program x (Calls number call) = IsFull program x call false
  HasRoom program x work = Unit {0}

  -- the component and what is told are those of the work of the definition, given what its disk decided
  pub record Works (program : Program) (old : Component D d) (stop : Option Stop) (work : Work) (new : Component D d) (told : Done) : Type 0 where
    pub outcome : DiskOutcome
    pub step : work_done program (com_of old) stop outcome (node_of old) (work_of work) ≡ Some (done_with (node_of new) told)
    pub room : HasRoom program old work
    pub meets : MeetsDisk program outcome stop (adds_of program (com_of old) (node_of old) outcome (work_of work)) old new told.answer
    pub played : told.played ≡ played_by (node_of old) (node_of new)
    pub goes_on : GoesOn old new

module _ {D : Type 0} (b : Ghosts D) {d : Ghosts (Torn D)} where
  -- why the work isn't done
  abbrev pub FailsToWork : Program → List ℕ → Component (Torn D) d → Option Stop → Work → Component (Torn D) d → NodeRefused → Type 0
  FailsToWork program given old stop (Calls number call) new why = FailsToDo b program given old call new why
  FailsToWork program given old stop Crashes new why = (why ≡ Memory) × Rests new
  FailsToWork program given old stop Recovers new why = FailsToRecover b program given old stop new why
