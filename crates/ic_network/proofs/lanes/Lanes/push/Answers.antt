use Rattle.std.proofs.Common.{◌≡◌, ◌∙◌, sym, ap, ◌+◌, ◌<◌, ◌==◌, cond, [], ◌∷◌, ◌++◌, arith, length, get_or, set}
use Rattle.std.proofs.lemmas.Grind.{get_or_default_zero}
use Rattle.ic_network.specs.declared.lanes.TheConstants.{NUMBERS, LANES}
use Rattle.ic_network.proofs.Pushing.{kept-push, linked}
use Rattle.ic_network.proofs.Leaving.{kept-same}
use Rattle.ic_network.proofs.lanes.Lanes.push.Goals as goal

pub invariant_of-self : goal.invariant_of-self
invariant_of-self c =
    let spare = ap (λ v. v.spare) c.self.view_is in
    let len = c.self.inside.lanes.ok.0 in
    let few : length c.self.inside.lanes.items < NUMBERS = omega (arith, c.requires.room) in
    let bound : c.args.lane < LANES = c.requires.lane in
    let number : c.count-number.result + 1 ≡ length c.self.inside.lanes.items + 1 = ap (λ z. z + 1) (c.count-number.ensures.count ∙ ap (λ v. length v.lanes) (sym c.self.view_is)) in
    let within : c.from-place.result < length c.self.inside.lasts.items = omega (arith, c.from-place.ensures, c.self.invariant.lasts_len) in
    let within_firsts : c.from-place.result < length c.self.inside.firsts.items = omega (arith, c.from-place.ensures, c.self.invariant.firsts_len) in
    let last : c.index.result.now ≡ get_or c.self.inside.lasts.items c.args.lane 0 = c.index.ensures ∙ get_or_default_zero c.self.inside.lasts.items c.from-place.result c.index.result.now within ∙ ap (λ j. get_or c.self.inside.lasts.items j 0) c.from-place.ensures in
    let first : c.index-2.result.now ≡ get_or c.self.inside.firsts.items c.args.lane 0 = c.index-2.ensures ∙ get_or_default_zero c.self.inside.firsts.items c.from-place.result c.index-2.result.now within_firsts ∙ ap (λ j. get_or c.self.inside.firsts.items j 0) c.from-place.ensures in
    let chain = c.link.ensures.items ∙ ap (λ l. linked l c.index.result.now (c.count-number.result + 1)) c.push_reserved-3.ensures.items ∙ ap (λ z. linked (c.self.inside.next.items ++ 0 ∷ []) z (c.count-number.result + 1)) last ∙ ap (λ n. linked (c.self.inside.next.items ++ 0 ∷ []) (get_or c.self.inside.lasts.items c.args.lane 0) n) number in
    let new_first = c.first_of.ensures ∙ ap (λ n. cond (c.index-2.result.now == 0) n c.index-2.result.now) number ∙ ap (λ f. cond (f == 0) (length c.self.inside.lanes.items + 1) f) first in
    let firsts = ap (λ j. set c.self.inside.firsts.items j c.first_of.result) c.from-place.ensures ∙ ap (λ f. set c.self.inside.firsts.items c.args.lane f) new_first in
    let lasts = ap (λ j. set c.self.inside.lasts.items j (c.count-number.result + 1)) c.from-place.ensures ∙ ap (λ n. set c.self.inside.lasts.items c.args.lane n) number in
    let oldest = c.first_of-self-inside.ensures ∙ ap (λ n. cond (c.self.inside.oldest == 0) n c.self.inside.oldest) number in
    let kept = kept-push c.self.inside.lanes.items c.self.inside.waits.items c.self.inside.next.items c.self.inside.firsts.items c.self.inside.lasts.items c.self.inside.oldest c.args.lane c.self.invariant bound few in
    kept-same _ _ _ _ _ _ _ _ _ _ _ _ c.push_reserved.ensures.items c.push_reserved-2.ensures.items chain firsts lasts oldest kept
