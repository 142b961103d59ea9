-- Lines that are served, as the definitions name them.
use Rattle.std.specs.Prelude.{◌≡◌, Option, Some, None, Result, Ok, Err}
use Rattle.ic_base.specs.declared.events.Event.{Event}
use Rattle.ic_base.specs.declared.events.What.TheVariants as whats
use Rattle.ic_base.specs.declared.refusals.Cause.{Cause}
use Rattle.def_client.specs.Fronts as fronts
use Rattle.def_run.specs.SystemStates.{without_stop}
use Rattle.def_serve.specs.Lines as lines
use Rattle.def_serve.specs.Lines.{Line, input_for}
use Rattle.def_serve.specs.Reading.{Form, gives_line, asks_line, checkpoint_line, values_line}
use Rattle.ic_plan.specs.Events.{RefusedBy}
use Rattle.ic_plan.specs.declared.served.Request.{Request}
use Rattle.ic_plan.specs.declared.served.ServedVerb.{ServedVerb}
use Rattle.ic_plan.specs.declared.served.ServedVerb.TheVariants.{Input, Client, Checkpoint, Values as Values_}
use Rattle.ic_plan.specs.declared.served.ServedLine.{ServedLine}
use Rattle.ic_plan.specs.declared.served.ServedLine.TheVariants.{Asks, Gives, Checkpoints, Values}

abbrev pub request_seen : Request → fronts.Request
request_seen r = record { who = r.who; handler = r.handler; args = r.args }

abbrev pub line_seen : ServedLine → Line
line_seen (Asks r) = lines.Asks (request_seen r)
line_seen (Gives r) = lines.Gives (request_seen r)
line_seen (Checkpoints c) = lines.Checkpoints c
line_seen Values = lines.Values

-- the event that a line may come to
abbrev pub event_in : ServedLine → Option Event
event_in (Asks r) = Some (input_for (request_seen r))
event_in (Gives r) = Some (input_for (request_seen r))
event_in (Checkpoints c) = Some (without_stop (whats.Checkpoint c))
event_in Values = None

-- what stands behind each first word
abbrev pub served_form : ServedVerb → Form
served_form Input = gives_line
served_form Client = asks_line
served_form Checkpoint = checkpoint_line
served_form Values_ = values_line

-- what was read is seen so, or refused for its cause; want of memory says nothing of it
abbrev pub ReadsAs : {X Y : Type 0} → (Y → X) → Result X Cause → Result Y Cause → Type 0
ReadsAs seen read (Ok y) = read ≡ Ok (seen y)
ReadsAs seen read (Err cause) = RefusedBy read cause
