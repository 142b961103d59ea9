use Rattle.std.proofs.Common.{rules}
use Rattle.ic_eval.specs.Views.{seen, part_seen}
use Rattle.ic_eval.proofs.Turns.{need_turn}
use Rattle.ic_eval.proofs.evaluation.played_need.Goals as goal

pub returns-then-expr_value-ne0 : goal.returns-then-expr_value-ne0
returns-then-expr_value-ne0 c now done =
    rw (need_turn c.args.args now c.args.line c.args.e (part_seen c.args.part.now) (seen c.args.course.now done)) (search rules)

pub returns-else-expr_value-ne0 : goal.returns-else-expr_value-ne0
returns-else-expr_value-ne0 c now done =
    rw (need_turn c.args.args now c.args.line c.args.e (part_seen c.args.part.now) (seen c.args.course.now done)) (search rules)
