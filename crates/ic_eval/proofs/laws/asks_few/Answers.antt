use Rattle.ic_eval.proofs.Few.{asks_no_more}
use Rattle.ic_eval.proofs.Wholes.{asks_few}
use Rattle.ic_eval.proofs.laws.asks_few.Goals as goal

pub returns-clause-bound : goal.returns-clause-bound
returns-clause-bound c = asks_no_more

pub returns-clause-requests : goal.returns-clause-requests
returns-clause-requests c = asks_few
