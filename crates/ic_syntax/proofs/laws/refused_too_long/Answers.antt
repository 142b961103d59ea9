use Rattle.ic_syntax.proofs.Walks.{too_long}
use Rattle.ic_syntax.proofs.laws.refused_too_long.Goals as goal

pub returns : goal.returns
returns c = too_long
