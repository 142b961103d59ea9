use Rattle.def_syntax.proofs.Limits.{is_written}
use Rattle.def_syntax.proofs.Whole.{is_scenario}
use Rattle.ic_syntax.proofs.laws.grammatical.Goals as goal

pub returns : goal.returns
returns c text p = (is_written text p, is_scenario text p)
