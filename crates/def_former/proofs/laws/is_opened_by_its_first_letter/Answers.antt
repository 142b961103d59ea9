use Rattle.def_former.proofs.Opening.{unopened_refused, opening_leaves}
use Rattle.def_former.proofs.laws.is_opened_by_its_first_letter.Goals as goal

pub returns-clause-before : goal.returns-clause-before
returns-clause-before c = unopened_refused

pub returns-clause-within : goal.returns-clause-within
returns-clause-within c = opening_leaves
