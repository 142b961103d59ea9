use Rattle.law_serve.proofs.Replies.{rebuilt_fronts_tell, seeing_fronts_tell, served_fronts_tell}
use Rattle.law_serve.proofs.replies_are_outputs.Goals as goal

pub returns : goal.returns
returns c = record { rebuilt = rebuilt_fronts_tell; seeing = seeing_fronts_tell; served = served_fronts_tell }
