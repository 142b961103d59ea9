use Rattle.law_serve.proofs.Firsts.{rebuilt_fronts_tell_first}
use Rattle.law_serve.proofs.Kept.{seeing_fronts_tell_first, served_fronts_tell_first, again_tells_first}
use Rattle.law_serve.proofs.replies_are_first.Goals as goal

pub returns : goal.returns
returns c = record { rebuilt = rebuilt_fronts_tell_first; seeing = seeing_fronts_tell_first; served = served_fronts_tell_first; again = again_tells_first }
