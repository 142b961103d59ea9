-- What an event adds to the inputs of a log.
use Rattle.std.specs.Prelude.{◌≡◌, ℕ, true, List, ◌++◌, filter_map, option_to_list, Some}
use Rattle.ic_base.specs.declared.messages.ComId.{ComId}
use Rattle.ic_base.specs.declared.events.Event.{Event}
use Rattle.ic_base.specs.declared.scenario.Program.{Program}
use Rattle.ic_base.specs.declared.record.Record.{Record}
use Rattle.ic_base.specs.Programs.{is_a_pcom}
use Rattle.def_step.specs.World.{World, Down, DiskOutcome, After, node_at, happens}
use Rattle.def_run.specs.CoreSteps.{is_stopped}
use Rattle.def_run.specs.CrashFree.{input_in, received_by}
use Rattle.def_run.specs.SystemStates.{is_of}
use Rattle.def_facts.specs.Logs.{Logs, log_at}
use Rattle.def_facts.specs.World.{IsExplained, forced_logs}
use Rattle.law_step.specs.Steps.{LeavesByGate}
use Rattle.law_syntax.specs.Events.{IsCounted}

-- a load reads the log that stands on the disk of the event's component, and the byte of the gate tells what a reached stop leaves
pub record DiskTells (program : Program) (w : World) (e : Event) (x : DiskOutcome) (a : After) (c : ComId) : Type 0 where
  pub found : (log : List Record) → node_at w c ≡ Some (Down log) → x.found ≡ log
  pub left : is_stopped a.trace.answer ≡ true → LeavesByGate program w e x c

-- the log of each Pcom gains the input that the event tells as taken or kept by it, and no other
abbrev pub EventsGainInputs : Type 0
EventsGainInputs = (program : Program) (found : Logs) (here : ComId → ℕ) (w : World) (e : Event) (x : DiskOutcome) (a : After) → IsCounted e.stop → ((c : ComId) → is_of e a.trace c ≡ true → DiskTells program w e x a c) → happens program w e x ≡ Some a → IsExplained program found here w →
    (c : ComId) → is_a_pcom program c ≡ true → filter_map input_in (log_at (forced_logs a.world) c) ≡ filter_map input_in (log_at (forced_logs w) c) ++ option_to_list (received_by c a.trace)
