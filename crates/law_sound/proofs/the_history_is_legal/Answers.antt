use Rattle.law_sound.proofs.Stepping.{own_entries_have_steps}
use Rattle.law_sound.proofs.Commits.{commits_have_steps}
use Rattle.law_sound.proofs.Legal.{history_is_legal}
use Rattle.law_sound.proofs.the_history_is_legal.Goals as goal

pub returns : goal.returns
returns c = record { own = own_entries_have_steps; commits = commits_have_steps; legal = history_is_legal }
