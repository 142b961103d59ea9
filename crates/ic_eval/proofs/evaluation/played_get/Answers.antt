use Rattle.std.proofs.Common.{rules, refl, sym, Some, None, length}
use Rattle.std.proofs.lemmas.Bool.{ltb-true, ltb-false}
use Rattle.std.proofs.lemmas.List.{map-append}
use Rattle.std.proofs.lemmas.Option.{slice_get_read, slice_get_past}
use Rattle.ic_base.specs.declared.scenario.Stmt as stmt
use Rattle.ic_eval.specs.Views.{seen, part_seen}
use Rattle.ic_eval.proofs.Turns.{get_turn}
use Rattle.ic_eval.proofs.evaluation.played_get.Goals as goal

pub returns-in_ok-push-in-Some-clause-played : goal.returns-in_ok-push-in-Some-clause-played
returns-in_ok-push-in-Some-clause-played c args now done =
    rw (get_turn args now (stmt.Get c.args.number c.args.key) c.args.number c.args.key (part_seen c.args.part.now) (seen c.args.course.now done) (Some c.in-Some.answer.now) refl (slice_get_read c.args.part.now.answers.now (length c.args.part.now.answers.now) c.args.course.now.place c.in-Some.answer.now refl (ltb-true _ _ (sym (c.in-Some.ensures {u = tt}).lookup.0)) (c.in-Some.ensures {u = tt}).lookup.1)) (rw (c.in_ok-push-in-Some.ensures {u = tt}).ok (simp map-append (search rules)))

pub returns-in-None-clause-played : goal.returns-in-None-clause-played
returns-in-None-clause-played c args now done =
    rw (get_turn args now (stmt.Get c.args.number c.args.key) c.args.number c.args.key (part_seen c.args.part.now) (seen c.args.course.now done) None refl (slice_get_past c.args.part.now.answers.now c.args.course.now.place (ltb-false _ _ (sym (c.in-None.ensures {u = tt}).lookup.0)))) refl
