use Rattle.std.proofs.Common.{rules, refl, sym, Some, None, length}
use Rattle.std.proofs.lemmas.Bool.{ltb-true, ltb-false}
use Rattle.std.proofs.lemmas.Option.{slice_get_read, slice_get_past}
use Rattle.ic_base.specs.declared.scenario.Stmt as stmt
use Rattle.ic_eval.specs.Views.{seen, part_seen}
use Rattle.ic_eval.proofs.Turns.{put_turn}
use Rattle.ic_eval.proofs.evaluation.played_put.Goals as goal

pub returns-in-Some-clause-played : goal.returns-in-Some-clause-played
returns-in-Some-clause-played c now done =
    rw (put_turn c.args.args now (stmt.Put c.args.key c.args.e) c.args.key c.args.e (part_seen c.args.part.now) (seen c.args.course.now done) (Some c.in-Some.field-0.now) refl (slice_get_read c.args.part.now.answers.now (length c.args.part.now.answers.now) c.args.course.now.place c.in-Some.field-0.now refl (ltb-true _ _ (sym (c.in-Some.ensures {u = tt}).lookup.0)) (c.in-Some.ensures {u = tt}).lookup.1)) refl

pub returns-in-None-clause-played : goal.returns-in-None-clause-played
returns-in-None-clause-played c now done =
    rw (put_turn c.args.args now (stmt.Put c.args.key c.args.e) c.args.key c.args.e (part_seen c.args.part.now) (seen c.args.course.now done) None refl (slice_get_past c.args.part.now.answers.now c.args.course.now.place (ltb-false _ _ (sym (c.in-None.ensures {u = tt}).lookup.0)))) (search rules)
