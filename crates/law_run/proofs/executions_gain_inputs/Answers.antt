use Rattle.law_run.proofs.Gaining.{executions_gain_inputs}
use Rattle.law_run.proofs.executions_gain_inputs.Goals as goal

pub returns : goal.returns
returns c = executions_gain_inputs
