use Rattle.std.proofs.Common.{◌∙◌, ap, sym, subst}
use Rattle.def_state.specs.Names.{Numbers}
use Rattle.ic_in.specs.Taken.{taken_of, IsTaken}
use Rattle.ic_in.proofs.Joining.{parts-taken, taken-are}
use Rattle.ic_in.proofs.taken.Taken.from_parts.Goals as goal

pub invariant_of-result : goal.invariant_of-result
invariant_of-result c =
    let P : Numbers → Type 0 = λ b. IsTaken b c.in_ok-above_of.field-0.seen in
    subst P (sym (c.from_vec.ensures ∙ c.in_ok-bounds_of.ensures)) (parts-taken c.args.senders.now c.in_ok-above_of.field-0.seen c.requires c.in_ok-above_of.ensures.ordered c.in_ok-above_of.ensures.members)

pub returns : goal.returns
returns c =
    ap (λ b. taken_of b c.in_ok-above_of.field-0.seen) (c.from_vec.ensures ∙ c.in_ok-bounds_of.ensures)
    ∙ taken-are c.args.senders.now c.in_ok-above_of.field-0.seen c.requires c.in_ok-above_of.ensures.ordered c.in_ok-above_of.ensures.members
