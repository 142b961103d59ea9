use Rattle.std.proofs.Common.{◌≡◌, ◌∙◌, ap, sym, subst, ℕ, ◌-◌, Bool, false, true, cond, List, length, get_or, set}
use Rattle.std.proofs.lemmas.Bool.{ne_eqb}
use Rattle.ic_network.specs.Lanes.{Lanes, is_waiting, is_waiting_on, without_wait, waits_as, IsFirst}
use Rattle.ic_network.proofs.Leaving.{kept-off, waits-some}
use Rattle.ic_network.proofs.lanes.Lanes.take_off.Goals as goal

pub invariant_of-self : goal.invariant_of-self
invariant_of-self c =
    let waits : waits_as c.self.inside.waits.items c.args.number ≡ true = ap (λ v. waits_as v.waits c.args.number) c.self.view_is ∙ sym c.does_wait.ensures ∙ c.if-not-does_wait.false in
    let some = waits-some c.self.inside.waits.items c.args.number waits in
    let lane : c.lane-lane.result ≡ get_or c.self.inside.lanes.items (c.args.number - 1) 0 = c.lane-lane.ensures.lane ∙ ap (λ v. get_or v.lanes (c.args.number - 1) 0) (sym c.self.view_is) in
    let P : List Bool → Type 0 = λ w. IsFirst (is_waiting w) 0 (length c.self.inside.waits.items) c.oldest_without-oldest.result in
    let Q : List Bool → Type 0 = λ w. IsFirst (is_waiting_on c.self.inside.lanes.items w c.lane-lane.result) 0 (length c.self.inside.waits.items) c.first_without-first.result in
    let O : Lanes → Type 0 = λ v. IsFirst (is_waiting (without_wait c.args.number v.waits)) 0 (length v.waits) c.oldest_without-oldest.result in
    let F : Lanes → Type 0 = λ v. IsFirst (is_waiting_on v.lanes (without_wait c.args.number v.waits) (get_or v.lanes (c.args.number - 1) 0)) 0 (length v.waits) c.first_without-first.result in
    let L : ℕ → Type 0 = λ z. IsFirst (is_waiting_on c.self.inside.lanes.items (without_wait c.args.number c.self.inside.waits.items) z) 0 (length c.self.inside.waits.items) c.first_without-first.result in
    let off : without_wait c.args.number c.self.inside.waits.items ≡ set c.self.inside.waits.items (c.args.number - 1) false = ap (λ b. cond b c.self.inside.waits.items (set c.self.inside.waits.items (c.args.number - 1) false)) (ne_eqb c.args.number 0 some) in
    let oldest = subst P off (subst O (sym c.self.view_is) c.oldest_without-oldest.ensures) in
    let first = subst Q off (subst L (sym lane) (subst F (sym c.self.view_is) c.first_without-first.ensures)) in
    kept-off c.self.inside.lanes.items c.self.inside.waits.items c.self.inside.next.items c.self.inside.firsts.items c.self.inside.lasts.items c.self.inside.oldest (c.args.number - 1) c.lane-lane.result c.first_without-first.result c.oldest_without-oldest.result c.self.invariant c.lane-lane.ensures.below (sym lane) oldest first
