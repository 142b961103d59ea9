use Rattle.law_client.proofs.Served.{client_runs_stand}
use Rattle.law_client.proofs.client_runs_stand.Goals as goal

pub returns : goal.returns
returns c = client_runs_stand
