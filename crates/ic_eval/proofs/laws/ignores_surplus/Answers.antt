use Rattle.ic_eval.proofs.Surplus.{surplus}
use Rattle.ic_eval.proofs.laws.ignores_surplus.Goals as goal

pub returns : goal.returns
returns c = surplus
