use Rattle.law_run.proofs.Steps.{core_steps_keep}
use Rattle.law_run.proofs.core_steps_keep_explained.Goals as goal

pub returns : goal.returns
returns c = core_steps_keep
