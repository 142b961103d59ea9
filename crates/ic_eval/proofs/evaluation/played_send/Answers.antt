use Rattle.std.proofs.Common.{rules, ap}
use Rattle.def_play.proofs.Folds.{turn-Send}
use Rattle.ic_eval.specs.Views.{seen}
use Rattle.ic_eval.proofs.evaluation.played_send.Goals as goal

pub returns-clause-played : goal.returns-clause-played
returns-clause-played c now done p =
    rw (ap (λ f. f p (seen c.args.course.now done)) (turn-Send c.args.args now c.args.to c.args.handler c.args.operands.now)) (search rules)
