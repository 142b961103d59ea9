use Rattle.law_run.proofs.ScenarioBytes.{scenarios_have_bytes}
use Rattle.law_run.proofs.scenarios_have_bytes.Goals as goal

pub returns : goal.returns
returns c = scenarios_have_bytes
