use Rattle.std.proofs.Common.{◌≡◌, ◌∙◌, ap, sym, ◌+◌, drop, arith}
use Rattle.def_log.specs.Directory.{slot_place, first_bad_slot}
use Rattle.def_log.specs.Frame.{any_batch}
use Rattle.ic_gate.specs.Slots.{names}
use Rattle.ic_gate.proofs.SlotWalks.{there}
use Rattle.ic_gate.proofs.Directories.{named_step, other_step}
use Rattle.ic_gate.proofs.directory.count_named.Goals as goal

pub overflow_add-result : goal.overflow_add-result
overflow_add-result c = omega (arith, there c.args.slots.now c.args.before c.args.at (sym c.names.ensures ∙ c.if-names.true))

pub returns-then-names-clause-named : goal.returns-then-names-clause-named
returns-then-names-clause-named c = omega (arith, there c.args.slots.now c.args.before c.args.at (sym c.names.ensures ∙ c.if-names.true))

pub returns-then-names-clause-on : goal.returns-then-names-clause-on
returns-then-names-clause-on c b here bs =
    let slots = c.args.slots.now in
    let n = c.args.before in
    let place : slot_place (n + 1) ≡ slot_place n + 9 = omega arith in
    ap (λ k. first_bad_slot any_batch k (drop (n + 1) slots) bs) place
    ∙ sym (named_step slots n (slot_place n) b bs (ap (names slots n) here ∙ sym c.names.ensures ∙ c.if-names.true)).1

pub returns-else-names-clause-on : goal.returns-else-names-clause-on
returns-else-names-clause-on c b here bs =
    let slots = c.args.slots.now in
    let n = c.args.before in
    sym (other_step slots n (slot_place n) b bs (ap (names slots n) here ∙ sym c.names.ensures ∙ c.if-names.false))
