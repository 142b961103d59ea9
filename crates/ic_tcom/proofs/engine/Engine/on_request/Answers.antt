use Rattle.std.proofs.Common.{◌∙◌, ◌≤◌, Some, sym, arith}
use Rattle.def_state.specs.Names.{number_of}
use Rattle.ic_tcom.proofs.Passing.{passes_on, is_other_epoch}
use Rattle.ic_tcom.proofs.engine.Engine.on_request.Goals as goal

pub returns-then-session-present-clause-step : goal.returns-then-session-present-clause-step
returns-then-session-present-clause-step c =
    let none = sym c.decided_at.ensures ∙ c.in_default.is in
    let least : number_of 1 c.self.inside.least.held c.args.on.peer ≤ c.args.on.n = omega (arith, c.of.ensures, c.if-on-of.false) in
    rw (← c.self.view_is, c.in-Some-session.is) (λ log.
    passes_on c.args.on.tcom c.args.on.peer c.args.on.n c.args.place (Some c.in-Some-session.session) _ _ _ none least
    ∙ is_other_epoch c.in-Some-session.session.epoch c.self.inside.book.held.epoch _ _ (λ e. c.if-session-present.true (e ∙ sym c.epoch-present.ensures.value))
    ∙ c.of_epoch_before.ensures _ (sym c.epoch-present.ensures.value))
