use Rattle.def_syntax.proofs.Limits.{keeps_limits}
use Rattle.ic_syntax.proofs.laws.limited.Goals as goal

pub returns : goal.returns
returns c = keeps_limits
