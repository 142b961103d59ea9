use Rattle.std.proofs.Common.{◌≡◌, ◌∙◌, ap, sym, subst, arith, ◌+◌, true}
use Rattle.std.specs.Prelude.{is_some}
use Rattle.def_state.specs.Names.{Identity}
use Rattle.ic_index.specs.Entries.{value_of, is_in_order}
use Rattle.ic_index.proofs.Searching.{in_order-without}
use Rattle.ic_in.proofs.Absorbing.{Above, AreLeft, left-next, absorbed-next, was-there, nothing-removed, still-none}
use Rattle.ic_in.proofs.taken.absorb.Goals as goal

pub loop-from-preserved : goal.loop-from-preserved
loop-from-preserved c =
    let i = c.loop-from.invariant in
    let x : Identity = record { peer = c.args.from; k = c.loop-from.end + 1 } in
    let there : is_some (value_of c.loop-from.above.seen x) ≡ true = sym c.remove.ensures.was ∙ c.loop-from-test.true in
    let was = was-there c.args.above.now.seen c.loop-from.above.seen c.args.from c.args.bound c.loop-from.end x i.left there in
    let low = c.requires.limited x was in
    let P : Above → Type 0 = λ z. AreLeft c.args.above.now.seen z c.args.from c.args.bound (c.loop-from.end + 1) in
    record {
      rises = (omega arith, omega arith);
      left = subst P (sym c.remove.ensures.gone) (left-next c.args.above.now.seen c.loop-from.above.seen c.args.from c.args.bound c.loop-from.end i.rises.0 i.ordered i.left);
      absorbed = absorbed-next c.args.above.now.seen c.args.from c.args.bound c.loop-from.end i.absorbed was;
      ordered = ap is_in_order c.remove.ensures.gone ∙ in_order-without x c.loop-from.above.seen i.ordered;
      room = omega arith;
    }

pub returns-clause-left : goal.returns-clause-left
returns-clause-left c =
    let x : Identity = record { peer = c.args.from; k = c.loop-from.end + 1 } in
    let same = c.remove.ensures.gone ∙ nothing-removed x c.loop-from.above.seen (sym c.remove.ensures.was ∙ c.loop-from-test.false) in
    λ y. ap (λ l. is_some (value_of l y)) same ∙ c.loop-from.invariant.left y

pub returns-clause-end : goal.returns-clause-end
returns-clause-end c =
    let x : Identity = record { peer = c.args.from; k = c.loop-from.end + 1 } in
    ap (λ l. value_of l x) c.remove.ensures.gone ∙ still-none x c.loop-from.above.seen (sym c.remove.ensures.was ∙ c.loop-from-test.false)

pub returns-clause-ordered : goal.returns-clause-ordered
returns-clause-ordered c =
    let x : Identity = record { peer = c.args.from; k = c.loop-from.end + 1 } in
    ap is_in_order c.remove.ensures.gone ∙ in_order-without x c.loop-from.above.seen c.loop-from.invariant.ordered
