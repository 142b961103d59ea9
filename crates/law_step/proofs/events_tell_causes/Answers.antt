use Rattle.law_step.proofs.Causes.{events_tell_causes}
use Rattle.law_step.proofs.events_tell_causes.Goals as goal

pub returns : goal.returns
returns c = events_tell_causes
