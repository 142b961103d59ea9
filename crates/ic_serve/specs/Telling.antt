-- How the events of a served run are told.
use Rattle.std.specs.Prelude.{ℕ, ◌==◌, if◌then◌else◌, List, [], ◌∷◌, None}
use Rattle.def_client.specs.Clients.{item_of, item_lines}
use Rattle.def_report.specs.Lines.{trace_lines}
use Rattle.ic_base.specs.declared.events.Trace.{Trace}
use Rattle.ic_base.specs.declared.report.ReportLevel.{ReportLevel}
use Rattle.ic_base.specs.declared.report.ReportLevel.TheVariants as levels
use Rattle.ic_base.specs.declared.scenario.Program.{Program}
use Rattle.ic_run.specs.Running.{Telling}
use Rattle.ic_serve.specs.declared.telling.Form.{Form}
use Rattle.ic_serve.specs.declared.telling.Form.TheVariants.{Following, Own, Request}

-- what is told of an event at a level: the packets that it put out at the level full alone, and an abort not in a summary
abbrev pub told_at : ReportLevel → Trace → Trace
told_at levels.Full t = t
told_at levels.Brief t = record t { puts = [] }
told_at levels.Summary t = record t { puts = []; aborted = None }

-- the level at which an event that follows is told
abbrev pub level_behind : ReportLevel → ReportLevel
level_behind levels.Full = levels.Full
level_behind levels.Brief = levels.Brief
level_behind levels.Summary = levels.Brief

-- The lines of the event of a number, in a form: the event line of what follows stands at the level full alone, and that of a line's own event
-- at each level.
abbrev pub event_lines : Program → ReportLevel → Form → ℕ → Trace → List ℕ
event_lines program level Following number t = trace_lines program number (told_at level t) (level_behind level)
event_lines program level Own number t = trace_lines program number (told_at level t) levels.Full
event_lines program level Request number t = item_lines program levels.Full number (item_of t.event) (told_at level t)

-- the form of the event of a number, where the first of them has this number and a form of its own
abbrev pub form_at : Form → ℕ → ℕ → Form
form_at form first number = if number == first then form else Following

-- how events are told of which the first has this number and a form of its own
abbrev pub telling : Program → ReportLevel → Form → ℕ → Telling
telling program level form first number t = event_lines program level (form_at form first number) number t ∷ []
