-- What a call comes to at a component with its disk.
use Rattle.std.specs.Prelude.{◌≡◌, ◌⊎◌, ◌≤◌, ℕ, Bool, true, false, List, length, Option, Some, None}
use Rattle.ic_base.specs.declared.events.Stop.{Stop}
use Rattle.ic_base.specs.declared.limits.TheConstants.{COMPONENTS}
use Rattle.ic_base.specs.declared.record.Record.{Record}
use Rattle.ic_base.specs.declared.refusals.WorldRefused.TheVariants as refused
use Rattle.ic_base.specs.declared.scenario.Program.{Program}
use Rattle.def_log.specs.Frame.{IsForeign}
use Rattle.def_log.specs.Sizes.{size_in}
use Rattle.def_run.specs.Refusals.{node_refusal}
use Rattle.def_run.specs.Reports.{played_by}
use Rattle.def_step.specs.Calls.{node_is_full}
use Rattle.def_step.specs.World.{DiskOutcome, does, does_or_stops}
use Rattle.ic_disk.specs.TornDisks.{Torn}
use Rattle.ic_disk.specs.declared.disk.Disk.{Ghosts}
use Rattle.ic_node.specs.Calling.{call_of, done_with}
use Rattle.ic_node.specs.Faults.{HasFault}
use Rattle.ic_node.specs.Meeting.{adds_in, MeetsDisk, GoesOn, Rests, IsUnmoved}
use Rattle.ic_node.specs.Views.{node_of, file_of, com_of, is_over, Tells}
use Rattle.ic_node.specs.declared.component.Component.{Component}
use Rattle.ic_node.specs.declared.done.Call.{Call}
use Rattle.ic_node.specs.declared.done.Done.{Done}
use Rattle.ic_node.specs.declared.done.NodeRefused.{NodeRefused}
use Rattle.ic_node.specs.declared.done.NodeRefused.TheVariants.{Full, Bad, Foreign, Failed, Memory}

-- the device calls of an event are counted from 1
abbrev pub IsAllowed : Option Stop → Type 0
IsAllowed None = Unit {0}
IsAllowed (Some stop) = 1 ≤ stop.call

module _ {D : Type 0} {d : Ghosts D} where
  -- the component goes on, the stop may be armed for it, and the program has no more components than it may
  pub record MayStep (program : Program) (x : Component D d) (stop : Option Stop) : Type 0 where
    pub going : is_over x ≡ false
    pub allowed : IsAllowed stop
    pub few : length program.components ≤ COMPONENTS

  -- the records that the call would force without a stop
  abbrev pub would_force : Program → Component D d → ℕ → Call → List Record
  would_force program x number call = adds_in (node_of x) (does program (com_of x) (node_of x) number (call_of call))

  -- the step would pass the limit of the log or of a number, or not
  abbrev pub IsFull : Program → Component D d → Call → Bool → Type 0
  IsFull program x call is = Tells x → (size : ℕ) → size_in (file_of x) ≡ Some size → node_is_full program (com_of x) (call_of call) size (node_of x) ≡ is

  -- the component and what is told are those of the step of the definition, or of the stop that cut it off
  pub record Does (program : Program) (old : Component D d) (stop : Option Stop) (number : ℕ) (call : Call) (new : Component D d) (done : Done) : Type 0 where
    pub outcome : DiskOutcome
    pub step : does_or_stops program (com_of old) (node_of old) stop outcome number (call_of call) ≡ Some (done_with (node_of new) done)
    pub room : IsFull program old call false
    pub meets : MeetsDisk program outcome stop (would_force program old number call) old new done.answer
    pub played : done.played ≡ played_by (node_of old) (node_of new)
    pub goes_on : GoesOn old new

module _ {D : Type 0} (b : Ghosts D) {d : Ghosts (Torn D)} where
  -- the cause of a refusal of a call
  abbrev pub HasCause : Program → List ℕ → Component (Torn D) d → Call → Component (Torn D) d → NodeRefused → Type 0
  HasCause program given old call new Full = IsFull program old call true × IsUnmoved old new
  HasCause program given old call new (Bad place) = Tells old → node_refusal program (com_of old) (file_of old) (call_of call) (node_of old) ≡ Some (refused.Bad (com_of old) place)
  HasCause program given old call new (Foreign kept) = Tells old → IsForeign given (file_of old) kept
  HasCause program given old call new Failed = HasFault b old new
  HasCause program given old call new Memory = Rests new

  -- A call isn't done, for a cause. It would pass no limit of the log or of a number, or nothing is done.
  pub record FailsToDo (program : Program) (given : List ℕ) (old : Component (Torn D) d) (call : Call) (new : Component (Torn D) d) (why : NodeRefused) : Type 0 where
    pub cause : HasCause program given old call new why
    pub rests : IsFull program old call false ⊎ IsUnmoved old new
