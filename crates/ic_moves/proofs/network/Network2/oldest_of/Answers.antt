use Rattle.std.proofs.Common.{◌∙◌, ap, subst, arith, ℕ, List, find}
use Rattle.def_two.specs.World.{goes, nth}
use Rattle.ic_moves.specs.Networks.{Network}
use Rattle.ic_moves.proofs.Waiting.{IsPlaceOf, found_now, kept_now}
use Rattle.ic_moves.proofs.network.Network2.oldest_of.Goals as goal
use Rattle.ic_moves.proofs.network.Network2.oldest_of.Goals.{then-at-len, else-at-len}

pub returns-clause-found : goal.returns-clause-found
returns-clause-found c =
    let x = c.self.inside in
    let at = c.first_between-at.result in
    let place = subst (λ (z : List ℕ). IsPlaceOf z c.args.from c.args.to c.place_in-start.result) c.as_slice.ensures.value c.place_in-start.ensures in
    let found = found_now x.packets.items x.waits.items x.passed.items x.first c.args.from c.args.to c.place_in-start.result at c.self.invariant place c.as_slice-2.result.now c.as_slice-3.result.now
    c.as_slice-2.ensures.value c.as_slice-3.ensures.value c.first_between-at.ensures.passed c.first_between-at.ensures.here c.first_between-at.ensures.within in
    let seen = ap (λ (v : Network). find (λ i. goes c.args.from c.args.to (nth v.packets i)) v.waiting) c.self.view_is in
    elim c.if-at-len.branch [
      | then-at-len w ↦ w.result-is ∙ found.0 (omega (arith, w.if-at-len.true, c.len.ensures, c.self.invariant.waits_len)) ∙ seen
      | else-at-len w ↦ w.result-is ∙ found.1 (λ l. omega (arith, l, w.if-at-len.false, c.len.ensures, c.self.invariant.waits_len)) ∙ seen
    ]

pub invariant_of-self : goal.invariant_of-self
invariant_of-self c =
    let x = c.self.inside in
    let place = subst (λ (z : List ℕ). IsPlaceOf z c.args.from c.args.to c.place_in-start.result) c.as_slice.ensures.value c.place_in-start.ensures in
    kept_now x.packets.items x.waits.items x.passed.items x.first c.args.from c.args.to c.place_in-start.result c.first_between-at.result c.self.invariant place c.as_slice-2.result.now c.as_slice-3.result.now
    c.as_slice-2.ensures.value c.as_slice-3.ensures.value c.first_between-at.ensures.passed c.first_between-at.ensures.here c.first_between-at.ensures.within c.keep_place.new.passed.items c.keep_place.ensures
