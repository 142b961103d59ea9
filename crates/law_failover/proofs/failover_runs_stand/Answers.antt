use Rattle.law_failover.proofs.Standing.{failover_runs_stand}
use Rattle.law_failover.proofs.failover_runs_stand.Goals as goal

pub returns : goal.returns
returns c = failover_runs_stand
