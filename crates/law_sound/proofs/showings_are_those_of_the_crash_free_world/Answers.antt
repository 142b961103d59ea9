use Rattle.law_sound.proofs.Showings.{showings_are_plain}
use Rattle.law_sound.proofs.showings_are_those_of_the_crash_free_world.Goals as goal

pub returns : goal.returns
returns c = showings_are_plain
