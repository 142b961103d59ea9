use Rattle.std.specs.List.{AllByRecursion}
use Rattle.ic_run.specs.Agendas.{MayCome}
use Rattle.std.proofs.Common.{◌∙◌, sym, subst, refl, List, inl, inr, arith}
use Rattle.ic_base.specs.declared.events.Event.{Event}
use Rattle.ic_settle.specs.Policies.{intervals_of}
use Rattle.ic_serve.specs.Worlds.{Settles, FailsToSettle}
use Rattle.ic_serve.specs.declared.telling.Form.TheVariants.{Following}
use Rattle.law_serve.proofs.Staying.{AllStopless}
use Rattle.ic_serve.proofs.Checkpoints.{checkpoints-stopless}
use Rattle.ic_serve.proofs.Rounds.{gathering-keeps}
use Rattle.std.proofs.lemmas.Result.{err_from_is_err_and}
use Rattle.ic_run.proofs.Lasting.{keeps-self}
use Rattle.ic_serve.proofs.ending.give_up.Goals as goal

pub returns-in_err-events-clause-cut : goal.returns-in_err-events-clause-cut
returns-in_err-events-clause-cut g c =
    let p = err_from_is_err_and c.from_residual.result c.from_residual.ensures.1 in
    rw (p.1, p.2) (inr (refl, keeps-self c.args.world.now))

pub returns-in_err-settle-clause-cut : goal.returns-in_err-settle-clause-cut
returns-in_err-settle-clause-cut g c =
    let p = err_from_is_err_and c.from_residual-in_err-settle.result c.from_residual-in_err-settle.ensures.1 in
    let P : List Event → Type 0 = λ l. FailsToSettle g.D.Disk c.args.texts.now l c.args.service.now c.args.world.now c.settle.new.world c.in_err-settle.field-0.0 in
    rw (p.1, p.2) (inl (subst P (c.as_slice.ensures.value ∙ c.in_ok-events.ensures.events) c.in_err-settle.ensures.cut))

pub returns-in_default-clause-cut : goal.returns-in_default-clause-cut
returns-in_default-clause-cut g c = inr (refl, c.in_ok-settle.ensures.world.disks)

pub returns-clause-given_up : goal.returns-clause-given_up
returns-clause-given_up g c = record {
  gathered = c.settle.new.service;
  settles = let P : List Event → Type 0 = λ l. Settles g.D.Disk c.args.texts.now l c.args.service.now c.settle.new.service c.args.world.now c.settle.new.world in subst P (c.as_slice.ensures.value ∙ c.in_ok-events.ensures.events) c.in_ok-settle.ensures.done;
  requests = gathering-keeps c.args.texts.now.program (intervals_of c.args.texts.now.policy) c.args.texts.now.policy.report Following c.as_slice.result.now c.args.service.now c.settle.new.service c.args.world.now c.settle.new.world (subst (λ l. AllByRecursion (MayCome c.args.texts.now.program) l) (sym c.as_slice.ensures.value) c.in_ok-events.ensures.may) (subst AllStopless (sym (c.as_slice.ensures.value ∙ c.in_ok-events.ensures.events)) (checkpoints-stopless 0 c.args.texts.now.program.components)) c.requires.world.few c.in_ok-settle.ensures.done;
  settled = c.in_ok-settle.ensures.world;
  reset = record { front = refl; tally = refl; lines = refl; piece = refl };
  played = omega (arith, c.in-Some.ensures, c.played.ensures);
}
