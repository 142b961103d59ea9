use Rattle.law_run.proofs.Aborts.{aborts_have_causes}
use Rattle.law_run.proofs.aborts_have_causes.Goals as goal

pub returns : goal.returns
returns c = aborts_have_causes
