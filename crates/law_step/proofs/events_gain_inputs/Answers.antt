use Rattle.law_step.proofs.Gaining.{events_gain_inputs}
use Rattle.law_step.proofs.events_gain_inputs.Goals as goal

pub returns : goal.returns
returns c = events_gain_inputs
