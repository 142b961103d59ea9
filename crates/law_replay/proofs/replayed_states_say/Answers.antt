use Rattle.law_replay.proofs.Likes.{after-same, one-message}
use Rattle.law_replay.proofs.Talks.{answers_were_asked}
use Rattle.law_replay.proofs.replayed_states_say.Goals as goal

pub returns : goal.returns
returns c = record { asked = answers_were_asked; contents = after-same; numbers = one-message }
