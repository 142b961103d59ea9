use Rattle.law_client.proofs.Served.{client_runs_serve}
use Rattle.law_client.proofs.client_runs_serve.Goals as goal

pub returns : goal.returns
returns c = client_runs_serve
