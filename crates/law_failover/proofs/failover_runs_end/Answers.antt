use Rattle.law_failover.proofs.Standing.{failover_runs_end}
use Rattle.law_failover.proofs.failover_runs_end.Goals as goal

pub returns : goal.returns
returns c = failover_runs_end
