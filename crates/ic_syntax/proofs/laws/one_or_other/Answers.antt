use Rattle.ic_syntax.proofs.Making.{one_or_other}
use Rattle.ic_syntax.proofs.laws.one_or_other.Goals as goal

pub returns : goal.returns
returns c = one_or_other
