use Rattle.law_sound.proofs.Decisions.{answers_agree}
use Rattle.law_sound.proofs.Aborting.{none_decided_and_aborted}
use Rattle.law_sound.proofs.Deciding.{decided_once, commits_are_decisions}
use Rattle.law_sound.proofs.decisions_agree.Goals as goal

pub returns : goal.returns
returns c = record { answers = answers_agree; aborts = none_decided_and_aborted; once = decided_once; commits = commits_are_decisions }
