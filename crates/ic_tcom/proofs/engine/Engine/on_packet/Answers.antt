use Rattle.std.proofs.Common.{◌∙◌, ap, sym, cond, eqb, Some}
use Rattle.def_step.specs.Tcom.{tcom_step, served, silent, on_drop, on_op, on_commit, of_old_epoch, sitting_in, decided_at, unless_below, unless_decided}
use Rattle.ic_tcom.specs.CarriesOut.{commits}
use Rattle.ic_tcom.specs.EngineState.{over}
use Rattle.ic_tcom.proofs.Passing.{same_told}
use Rattle.ic_tcom.proofs.Same.{if_does_same}
use Rattle.ic_tcom.proofs.engine.Engine.on_packet.Goals as goal

pub returns-in-Op-clause-step : goal.returns-in-Op-clause-step
returns-in-Op-clause-step c =
    let e = c.args.self.now.held in
    let t = c.args.t in
    let o = c.in-Op in
    if_does_same
    (λ log. unless_below o.from o.n (over log e) (unless_decided t o.from o.n o.place o.session (over log e) (decided_at e.book o.from o.n) (on_op t o.from o.n o.place o.session o.request (over log e))))
    (λ log. tcom_step c.args.program.now t (over log e) c.args.p.now)
    e c.on_request.new.self.held
    (λ log keeps. same_told log e keeps o.from o.n (λ d. unless_decided t o.from o.n o.place o.session (over log e) d (on_op t o.from o.n o.place o.session o.request (over log e)))
    ∙ sym (ap (λ b. cond b (served t (over log e) c.args.p.now) (silent (over log e))) (sym c.if-not-fits_tcom.ensures) ∙ ap (served t (over log e)) o.is))
    c.on_request.result c.on_request.ensures.step

pub returns-in-Commit-clause-step : goal.returns-in-Commit-clause-step
returns-in-Commit-clause-step c =
    let e = c.args.self.now.held in
    let t = c.args.t in
    let o = c.in-Commit in
    if_does_same
    (λ log. commits t o.from o.n o.place o.session o.stamp (over log e) (decided_at e.book o.from o.n))
    (λ log. tcom_step c.args.program.now t (over log e) c.args.p.now)
    e c.on_commit.new.self.held
    (λ log keeps. same_told log e keeps o.from o.n (λ d. unless_decided t o.from o.n o.place (Some o.session) (over log e) d (cond (eqb o.session.epoch e.book.epoch) (on_commit t o.place o.stamp o.session (over log e) (sitting_in (over log e) o.session o.from o.n)) (of_old_epoch t o.from o.n o.place o.session (over log e))))
    ∙ sym (ap (λ b. cond b (served t (over log e) c.args.p.now) (silent (over log e))) (sym c.if-not-fits_tcom.ensures) ∙ ap (served t (over log e)) o.is))
    c.on_commit.result c.on_commit.ensures.step

pub returns-in-Drop-clause-step : goal.returns-in-Drop-clause-step
returns-in-Drop-clause-step c =
    let e = c.args.self.now.held in
    let t = c.args.t in
    let o = c.in-Drop in
    if_does_same (λ log. silent (on_drop (over log e) o.from o.n)) (λ log. tcom_step c.args.program.now t (over log e) c.args.p.now)
    e c.on_drop.new.self.held
    (λ log keeps. sym (ap (λ b. cond b (served t (over log e) c.args.p.now) (silent (over log e))) (sym c.if-not-fits_tcom.ensures) ∙ ap (served t (over log e)) o.is))
    c.on_drop.result c.on_drop.ensures.step
