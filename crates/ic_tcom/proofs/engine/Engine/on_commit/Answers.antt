use Rattle.std.proofs.Common.{◌∙◌, ◌≤◌, Some, sym, arith}
use Rattle.def_state.specs.Names.{number_of}
use Rattle.ic_tcom.proofs.Passing.{passes_on, is_other_epoch}
use Rattle.ic_tcom.proofs.engine.Engine.on_commit.Goals as goal

pub returns-then-present-session-clause-step : goal.returns-then-present-session-clause-step
returns-then-present-session-clause-step c =
    let none = sym c.decided_at.ensures ∙ c.in_default.is in
    let least : number_of 1 c.self.inside.least.held c.args.on.peer ≤ c.args.on.n = omega (arith, c.of.ensures, c.if-on-of.false) in
    rw (← c.self.view_is) (λ log.
    passes_on c.args.on.tcom c.args.on.peer c.args.on.n c.args.place (Some c.args.session) _ _ _ none least
    ∙ is_other_epoch c.args.session.epoch c.self.inside.book.held.epoch _ _ (λ e. c.if-present-session.true (c.epoch-present.ensures.value ∙ sym e))
    ∙ c.of_epoch_before.ensures _ (sym c.epoch-present.ensures.value))
