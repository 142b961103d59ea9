use Rattle.std.proofs.Common.{◌≡◌, ◌∙◌, sym, subst, ◌-◌, ◌+◌, ◌<◌, ◌≤◌, ℕ, false, length, get_or, arith}
use Rattle.std.proofs.lemmas.Grind.{get_or_default_zero}
use Rattle.std.proofs.lemmas.List.{get_or_default}
use Rattle.ic_network.specs.Lanes.{is_waiting, is_on, IsFirst}
use Rattle.ic_network.proofs.Firsts.{walk-on}
use Rattle.ic_network.proofs.lanes.Lanes.behind_on_lane.Goals as goal

pub loop-at-preserved : goal.loop-at-preserved
loop-at-preserved c =
    let lanes = c.self.inside.lanes.items in
    let waits = c.self.inside.waits.items in
    let next = c.self.inside.next.items in
    let at = c.loop-at.at in
    let some : 0 < at = omega (arith, c.loop-at-test.true) in
    let come : at ≤ length lanes = (c.loop-at.invariant.here some).1 in
    let place : at - 1 < length waits = omega (arith, come, some, c.self.invariant.waits_len) in
    let linked : at - 1 < length next = omega (arith, come, some, c.self.invariant.next_len) in
    let off : is_waiting waits (at - 1) ≡ false = get_or_default waits (at - 1) false c.index.result.now place ∙ sym c.index.ensures ∙ c.if-index.false in
    let new : c.index-at-in-loop-at.result.now ≡ get_or next (at - 1) 0 = c.index-at-in-loop-at.ensures ∙ get_or_default_zero next (at - 1) c.index-at-in-loop-at.result.now linked in
    let First : ℕ → Type 0 = λ n. IsFirst (is_on lanes (get_or lanes (at - 1) 0)) (at - 1 + 1) (length lanes) n in
    walk-on lanes waits (get_or lanes (c.args.number - 1) 0) c.args.number at c.index-at-in-loop-at.result.now some c.loop-at.invariant off (subst First (sym new) (c.self.invariant.chained (at - 1) (omega (arith, come, some))))
