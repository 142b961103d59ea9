-- Forced logs grow.
use Rattle.std.specs.Prelude.{◌≡◌, true, Some}
use Rattle.ic_base.specs.declared.events.Event.{Event}
use Rattle.ic_base.specs.declared.messages.ComId.{ComId}
use Rattle.ic_base.specs.declared.scenario.Program.{Program}
use Rattle.def_facts.specs.Logs.{log_at, IsPrefixOf}
use Rattle.def_facts.specs.World.{forced_logs}
use Rattle.def_run.specs.SystemStates.{is_of}
use Rattle.def_step.specs.World.{World, DiskOutcome, After, happens}
use Rattle.law_step.specs.Steps.{DiskFits}

-- over each event whose disk tells its log, and leaves by a stop the log before the step or the one behind it
abbrev pub EventsGrowLogs : Type 0
EventsGrowLogs = (program : Program) (w : World) (e : Event) (x : DiskOutcome) (a : After) → ((c : ComId) → is_of e a.trace c ≡ true → DiskFits program w e x a c) → happens program w e x ≡ Some a →
    (c : ComId) → IsPrefixOf (log_at (forced_logs w) c) (log_at (forced_logs a.world) c)
