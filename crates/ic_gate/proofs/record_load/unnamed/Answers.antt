use Rattle.std.proofs.Common.{◌∙◌, ap, sym, subst, ◌≤◌, ℕ, length, Some, [], arith}
use Rattle.std.specs.Prelude.{Result, IfOk}
use Rattle.ic_gate.specs.Slots.{bad_behind}
use Rattle.ic_gate.proofs.SlotWalks.{left_over}
use Rattle.ic_gate.proofs.record_load.unnamed.Goals as goal

pub returns-else-n-slots : goal.returns-else-n-slots
returns-else-n-slots c =
    let le : c.in-Ok.n ≤ length c.args.slots.now = subst (λ (r : Result ℕ ℕ). IfOk r (λ n. n ≤ length c.args.slots.now)) c.in-Ok.is c.requires.named in
    ap (λ (n : ℕ). Some n) c.slot_place.ensures
    ∙ left_over c.args.slots.now c.in-Ok.n (omega (arith, le, c.if-n-slots.false))
    ∙ ap (λ r. bad_behind c.args.slots.now r []) (sym c.in-Ok.is)
