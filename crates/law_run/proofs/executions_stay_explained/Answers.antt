use Rattle.law_run.proofs.Along.{executions_stay_explained}
use Rattle.law_run.proofs.executions_stay_explained.Goals as goal

pub returns : goal.returns
returns c = executions_stay_explained
