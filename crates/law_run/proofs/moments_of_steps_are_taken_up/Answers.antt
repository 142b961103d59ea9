use Rattle.law_run.proofs.Moments.{found_at_moments}
use Rattle.law_run.proofs.moments_of_steps_are_taken_up.Goals as goal

pub returns : goal.returns
returns c = found_at_moments
