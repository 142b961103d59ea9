use Rattle.std.proofs.Common.{◌∙◌, ◌≤◌, sym, ap, rules, arith, length, Some, None}
use Rattle.std.proofs.lemmas.Option.{same_Some, slice_get-get_or, slice_get_within}
use Rattle.ic_live.proofs.Carried.{none-next}
use Rattle.ic_live.proofs.Endings.{quiet-more}
use Rattle.ic_live.proofs.ended.lowest.Goals as goal

pub returns-in-Some-clause-found : goal.returns-in-Some-clause-found
returns-in-Some-clause-found c = (slice_get-get_or c.args.refusals.now c.loop-at.at _ c.loop-at-test.true ∙ ap (λ o. Some o) c.in-Some.is, c.loop-at.invariant)

pub loop-at-preserved : goal.loop-at-preserved
loop-at-preserved c k small = quiet-more c.args.refusals.now c.loop-at.at k (slice_get-get_or c.args.refusals.now c.loop-at.at _ c.loop-at-test.true ∙ ap (λ o. Some o) (none-next _ c.in_default.not-Some)) c.loop-at.invariant small

pub returns-clause-none : goal.returns-clause-none
returns-clause-none c k r here =
    let end : length c.args.refusals.now ≤ c.loop-at.at = search (rules, arith) in
    same_Some r None (sym here ∙ c.loop-at.invariant k (omega (arith, slice_get_within c.args.refusals.now k r here, end)))
