use Rattle.std.proofs.Common.{◌≡◌, ◌∙◌, ap, sym, subst, ℕ, ◌-◌, ◌+◌, ◌<◌, length, get_or, arith}
use Rattle.std.specs.Prelude.{find}
use Rattle.std.proofs.lemmas.Grind.{get_or_default_zero}
use Rattle.ic_network.specs.declared.lanes.TheConstants.{LANES}
use Rattle.ic_network.specs.Lanes.{numbers_from, is_on, is_waiting_on, if_some, IsFirst}
use Rattle.ic_network.proofs.Listing.{listed}
use Rattle.ic_network.proofs.lanes.Lanes.oldest_on.Goals as goal

pub returns : goal.returns
returns c =
    let bound : c.args.lane < LANES = c.requires in
    let within : c.from.result < length c.self.inside.firsts.items = omega (arith, c.from.ensures, c.self.invariant.firsts_len) in
    let first : c.index.result.now ≡ get_or c.self.inside.firsts.items c.args.lane 0 = c.index.ensures ∙ get_or_default_zero c.self.inside.firsts.items c.from.result c.index.result.now within ∙ ap (λ j. get_or c.self.inside.firsts.items j 0) c.from.ensures in
    let P : ℕ → Type 0 = λ n. IsFirst (is_waiting_on c.self.inside.lanes.items c.self.inside.waits.items c.args.lane) 0 n (get_or c.self.inside.firsts.items c.args.lane 0) in
    c.some_number.ensures
    ∙ ap if_some first
    ∙ listed (λ i. is_on c.self.inside.lanes.items c.args.lane (i - 1)) (is_on c.self.inside.lanes.items c.args.lane) c.self.inside.waits.items (get_or c.self.inside.firsts.items c.args.lane 0) (λ k. let place : k ≡ 1 + k - 1 = omega arith in ap (is_on c.self.inside.lanes.items c.args.lane) place) (subst P (sym c.self.invariant.waits_len) (c.self.invariant.first_on c.args.lane bound))
    ∙ ap (λ v. find (λ i. is_on v.lanes c.args.lane (i - 1)) (numbers_from 1 v.waits)) c.self.view_is
