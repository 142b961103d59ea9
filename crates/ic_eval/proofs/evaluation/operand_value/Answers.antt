use Rattle.std.proofs.Common.{rules}
use Rattle.ic_eval.proofs.Turns.{local_found}
use Rattle.ic_eval.proofs.evaluation.operand_value.Goals as goal

pub returns-in-Local : goal.returns-in-Local
returns-in-Local c = rw (c.in-Local.is, ← local_found c.args.course.now.locals c.in-Local.i) (search rules)
