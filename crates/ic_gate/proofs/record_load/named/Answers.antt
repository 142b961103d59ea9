use Rattle.std.proofs.Common.{◌∙◌, ap, sym, ℕ, true, false, Some, ◌∷◌, arith}
use Rattle.ic_gate.specs.Slots.{bad_behind}
use Rattle.ic_gate.proofs.SlotWalks.{passed_over, looked_at, there}
use Rattle.ic_gate.proofs.record_load.named.Goals as goal

pub returns-then-not-names-clause-on : goal.returns-then-not-names-clause-on
returns-then-not-names-clause-on c b here is bs =
    passed_over c.args.slots.now c.in-Ok.n c.args.at b bs (sym c.names.ensures ∙ c.if-not-names.true) here ∙ ap (λ r. bad_behind c.args.slots.now r (b ∷ bs)) (sym c.in-Ok.is)

pub returns-then-ends-clause-named : goal.returns-then-ends-clause-named
returns-then-ends-clause-named c = omega (arith, there c.args.slots.now c.in-Ok.n c.args.at (sym c.names.ensures ∙ c.if-not-names.false))

pub returns-then-ends-clause-on : goal.returns-then-ends-clause-on
returns-then-ends-clause-on c b here is bs =
    looked_at c.args.slots.now c.in-Ok.n c.args.at b bs true (sym c.names.ensures ∙ c.if-not-names.false) here (is ∙ c.if-ends.true) ∙ ap (λ r. bad_behind c.args.slots.now r (b ∷ bs)) (sym c.in-Ok.is)

pub returns-else-ends-clause-on : goal.returns-else-ends-clause-on
returns-else-ends-clause-on c b here is bs =
    ap (λ (n : ℕ). Some n) c.slot_place.ensures
    ∙ looked_at c.args.slots.now c.in-Ok.n c.args.at b bs false (sym c.names.ensures ∙ c.if-not-names.false) here (is ∙ c.if-ends.false) ∙ ap (λ r. bad_behind c.args.slots.now r (b ∷ bs)) (sym c.in-Ok.is)
