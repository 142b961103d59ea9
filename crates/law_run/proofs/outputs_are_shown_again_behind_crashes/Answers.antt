use Rattle.law_run.proofs.Again.{shown_again}
use Rattle.law_run.proofs.outputs_are_shown_again_behind_crashes.Goals as goal

pub returns : goal.returns
returns c = shown_again
