use Rattle.std.proofs.Common.{◌≡◌, ◌∙◌, sym, ap, subst, ◌-◌, ◌<◌, ℕ, length, get_or, arith}
use Rattle.std.proofs.lemmas.Grind.{get_or_default_zero}
use Rattle.ic_network.specs.Lanes.{Lanes, is_waiting_on, without_wait, IsFirst}
use Rattle.ic_network.proofs.Leaving.{first-other}
use Rattle.ic_network.proofs.lanes.Lanes.first_without.Goals as goal

pub returns-else-first-number : goal.returns-else-first-number
returns-else-first-number c =
    let lanes = c.self.inside.lanes.items in
    let waits = c.self.inside.waits.items in
    let firsts = c.self.inside.firsts.items in
    let first = c.index-first.result.now in
    let within : c.lane.result < length firsts = omega (arith, c.lane.ensures.below, c.self.invariant.firsts_len) in
    let kept : first ≡ get_or firsts c.lane.result 0 = c.index-first.ensures ∙ get_or_default_zero firsts c.lane.result first within in
    let First : ℕ → Type 0 = λ n. IsFirst (is_waiting_on lanes waits c.lane.result) 0 (length lanes) n in
    let Among : ℕ → Type 0 = λ n. IsFirst (is_waiting_on lanes waits c.lane.result) 0 n first in
    let here = subst Among (sym c.self.invariant.waits_len) (subst First (sym kept) (c.self.invariant.first_on c.lane.result c.lane.ensures.below)) in
    let On : ℕ → Type 0 = λ x. IsFirst (is_waiting_on lanes (without_wait c.args.number waits) x) 0 (length waits) first in
    let Seen : Lanes → Type 0 = λ v. IsFirst (is_waiting_on v.lanes (without_wait c.args.number v.waits) (get_or v.lanes (c.args.number - 1) 0)) 0 (length v.waits) first in
    let lane : c.lane.result ≡ get_or lanes (c.args.number - 1) 0 = c.lane.ensures.lane ∙ ap (λ v. get_or v.lanes (c.args.number - 1) 0) (sym c.self.view_is) in
    subst Seen c.self.view_is (subst On lane (first-other lanes waits c.lane.result c.args.number first c.requires.there c.if-first-number.false here))
