use Rattle.ic_syntax.proofs.Refusing.{has_fault, is_refused}
use Rattle.ic_syntax.proofs.laws.least_fault.Goals as goal

pub returns : goal.returns
returns c text line cause = (has_fault text line cause, is_refused text)
