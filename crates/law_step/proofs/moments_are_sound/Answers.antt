use Rattle.law_step.proofs.Moments.{moments_are_sound}
use Rattle.law_step.proofs.moments_are_sound.Goals as goal

pub returns : goal.returns
returns c = moments_are_sound
