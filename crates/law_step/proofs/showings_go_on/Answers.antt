use Rattle.law_step.proofs.Shown.{showings_go_on}
use Rattle.law_step.proofs.showings_go_on.Goals as goal

pub returns : goal.returns
returns c = showings_go_on
