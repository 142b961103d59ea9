use Rattle.std.proofs.Common.{◌∙◌, ap, sym, refl, cond, Some, None}
use Rattle.std.proofs.lemmas.List.{append-nil}
use Rattle.ic_live.proofs.lending.pop_own.Goals as goal

pub returns-then-is_between-clause-pop : goal.returns-then-is_between-clause-pop
returns-then-is_between-clause-pop g c =
    (record { from = c.args.from; gave = Some c.in-Some.p }, refl, sym (ap (λ b. cond b (Some c.in-Some.p) None) (sym c.is_between.ensures ∙ c.if-is_between.true)), c.in-Some.ensures.received)

pub returns-else-is_between-clause-pop : goal.returns-else-is_between-clause-pop
returns-else-is_between-clause-pop g c =
    (record { from = c.args.from; gave = Some c.in-Some.p }, refl, sym (ap (λ b. cond b (Some c.in-Some.p) None) (sym c.is_between.ensures ∙ c.if-is_between.false)), c.in-Some.ensures.received)

pub returns-in-None-clause-pop : goal.returns-in-None-clause-pop
returns-in-None-clause-pop g c = (record { from = c.args.from; gave = None }, refl, refl, c.in-None.ensures.received ∙ sym (append-nil c.args.lane.now.received))
