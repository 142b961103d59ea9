use Rattle.law_client.proofs.Replies.{replies_are_first}
use Rattle.law_client.proofs.Shown.{replies_are_plain}
use Rattle.law_client.proofs.replies_are_those_of_the_crash_free_world.Goals as goal

pub returns : goal.returns
returns c = record { first = replies_are_first; plain = replies_are_plain }
