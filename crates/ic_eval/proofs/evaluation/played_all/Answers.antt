use Rattle.ic_eval.specs.Views.{seen}
use Rattle.ic_eval.proofs.Turns.{plays_some, plays_none}
use Rattle.ic_eval.proofs.evaluation.played_all.Goals as goal

pub returns-in-Some : goal.returns-in-Some
returns-in-Some c =
    plays_some c.args.stmts.now c.args.vars c.args.handling.now.args c.args.handling.now.done.now c.args.handling.now.answers.now c.in_ok-r.field-0 c.in-Some.r (seen c.played_list.new.course c.args.handling.now.done.now) c.in-Some.is (rw (c.new.ensures, c.new-2.ensures, c.new-3.ensures) at c.in_ok-r.ensures.played)

pub returns-in-None : goal.returns-in-None
returns-in-None c =
    plays_none c.args.stmts.now c.args.vars c.args.handling.now.args c.args.handling.now.done.now c.args.handling.now.answers.now c.in_ok-r.field-0 (seen c.played_list.new.course c.args.handling.now.done.now) c.in-None.is (rw (c.new.ensures, c.new-2.ensures, c.new-3.ensures) at c.in_ok-r.ensures.played)
