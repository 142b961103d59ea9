use Rattle.law_failover.proofs.Serving.{failover_runs_serve}
use Rattle.law_failover.proofs.failover_runs_serve.Goals as goal

pub returns : goal.returns
returns c = failover_runs_serve
