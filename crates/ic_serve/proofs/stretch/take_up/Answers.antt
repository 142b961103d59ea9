use Rattle.std.proofs.Common.{refl, []}
use Rattle.std.proofs.lemmas.Result.{err_from_is_err_and}
use Rattle.ic_serve.specs.Worlds.{unfit, unsettled, unanswered}
use Rattle.ic_serve.proofs.Results.{on-done, on-refused}
use Rattle.ic_settle.specs.Policies.{intervals_of}
use Rattle.ic_serve.specs.declared.telling.Form.TheVariants.{Following}
use Rattle.ic_serve.proofs.Rounds.{gathering-keeps}
use Rattle.ic_serve.proofs.Settled.{settled-then}
use Rattle.ic_serve.proofs.stretch.take_up.Goals as goal

pub returns-in_err-load-clause-short : goal.returns-in_err-load-clause-short
returns-in_err-load-clause-short g c =
    let p = err_from_is_err_and c.from_residual.result c.from_residual.ensures.1 in
    rw (p.1, p.2) (unfit c.in_err-load.ensures.refused refl refl)

pub returns-in_err-settle-clause-short : goal.returns-in_err-settle-clause-short
returns-in_err-settle-clause-short g c =
    let p = err_from_is_err_and c.from_residual-in_err-settle.result c.from_residual-in_err-settle.ensures.1 in
    rw (p.1, p.2) (unsettled c.load.new.service c.in_err-settle.ensures.cut refl)

pub returns-clause-up : goal.returns-clause-up
returns-clause-up g c =
    on-done c.answer_first.result c.answer_first.ensures.answers
    (λ answers. record { loaded = c.load.new.service; settled = c.settle.new.service; mid = c.settle.new.world; front = c.in_ok-load.ensures.loads; settles = c.in_ok-settle.ensures.done; from = c.in_ok-settle.ensures.world; requests = gathering-keeps c.args.texts.now.program (intervals_of c.args.texts.now.policy) c.args.texts.now.policy.report Following [] c.load.new.service c.settle.new.service c.args.world.now c.settle.new.world tt tt c.requires.world.few c.in_ok-settle.ensures.done; answers = answers })

pub returns-clause-world : goal.returns-clause-world
returns-clause-world g c =
    on-done c.answer_first.result c.answer_first.ensures.world
    (λ w. settled-then c.args.texts.now.program c.args.world.now c.settle.new.world c.answer_first.new.world c.in_ok-settle.ensures.world w)

pub returns-clause-short : goal.returns-clause-short
returns-clause-short g c =
    on-refused c.answer_first.result c.answer_first.ensures.short
    (λ why fails. unanswered c.load.new.service c.settle.new.service c.settle.new.world c.in_ok-settle.ensures.done c.in_ok-settle.ensures.world fails)
