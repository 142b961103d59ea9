use Rattle.law_syntax.proofs.Events.{schedules_have_events, client_schedules_have_events, allowed_have_handlers}
use Rattle.law_syntax.proofs.schedules_have_events.Goals as goal

pub returns : goal.returns
returns c = record { text = schedules_have_events; clients = client_schedules_have_events; allowed = allowed_have_handlers }
