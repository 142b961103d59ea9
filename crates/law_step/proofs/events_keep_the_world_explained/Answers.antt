use Rattle.law_step.proofs.Events.{events_keep_explained, events_go_on}
use Rattle.law_step.proofs.events_keep_the_world_explained.Goals as goal

pub returns : goal.returns
returns c = record { explained = events_keep_explained; past = events_go_on }
