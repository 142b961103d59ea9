use Rattle.law_failover.proofs.Growing.{events_grow_logs}
use Rattle.law_failover.proofs.events_grow_logs.Goals as goal

pub returns : goal.returns
returns c = events_grow_logs
