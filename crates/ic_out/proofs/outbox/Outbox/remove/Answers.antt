use Rattle.std.proofs.Common.{◌≡◌, ◌∙◌, ap, sym, refl, arith, cond, length, ◌<◌, ◌-◌, map, List}
use Rattle.std.specs.List.{remove}
use Rattle.std.proofs.lemmas.Grind.{common_steps}
use Rattle.std.proofs.lemmas.Bool.{lt-ltb, le-ltb}
use Rattle.std.proofs.lemmas.List.{length-map}
use Rattle.def_state.specs.Outbox.{Held, Outbox}
use Rattle.ic_out.specs.Views.{held_of}
use Rattle.ic_out.proofs.Kept.{kept-remove, kept-same}
use Rattle.ic_index.proofs.Reading.{map-remove}
use Rattle.ic_out.proofs.outbox.Outbox.remove.Goals as goal

pub invariant_of-self : goal.invariant_of-self
invariant_of-self c =
    let long = ap (λ v. length v.seen.held) c.self.view_is in
    let bound : c.args.i < length c.self.inside.rows.items = omega (arith, c.requires, length-map c.self.inside.rows.items held_of) in
    let removed : c.remove-2.new.self.items ≡ remove c.self.inside.rows.items c.args.i = grind (arith, common_steps) in
    let kept = kept-remove c.self.inside.rows.items c.self.inside.names.seen c.self.inside.links.seen c.self.inside.first c.self.inside.quiet c.args.i c.self.invariant bound in
    kept-same _ _ _ _ _ _ _ _ _ _ removed c.remove.ensures.gone refl (sym (ap (λ b. cond b (c.self.inside.first - 1) c.self.inside.first) (lt-ltb c.args.i c.self.inside.first c.if-i-self.true))) refl kept

pub invariant_of-self-else-i-self : goal.invariant_of-self-else-i-self
invariant_of-self-else-i-self c =
    let long = ap (λ v. length v.seen.held) c.self.view_is in
    let bound : c.args.i < length c.self.inside.rows.items = omega (arith, c.requires, length-map c.self.inside.rows.items held_of) in
    let removed : c.remove-2.new.self.items ≡ remove c.self.inside.rows.items c.args.i = grind (arith, common_steps) in
    let kept = kept-remove c.self.inside.rows.items c.self.inside.names.seen c.self.inside.links.seen c.self.inside.first c.self.inside.quiet c.args.i c.self.invariant bound in
    kept-same _ _ _ _ _ _ _ _ _ _ removed c.remove.ensures.gone refl (sym (ap (λ b. cond b (c.self.inside.first - 1) c.self.inside.first) (le-ltb c.args.i c.self.inside.first c.if-i-self.false))) refl kept

pub returns-then-i-self-clause-gone : goal.returns-then-i-self-clause-gone
returns-then-i-self-clause-gone c =
    let long = ap (λ v. length v.seen.held) c.self.view_is in
    let bound : c.args.i < length c.self.inside.rows.items = omega (arith, c.requires, length-map c.self.inside.rows.items held_of) in
    let removed : c.remove-2.new.self.items ≡ remove c.self.inside.rows.items c.args.i = grind (arith, common_steps) in
    let P : List Held → Outbox = λ hs. record { held = hs; links = c.self.inside.links.seen } in
    let Q : Outbox → Outbox = λ o. record { held = remove o.held c.args.i; links = o.links } in
    ap P (ap (map held_of) removed ∙ map-remove held_of c.self.inside.rows.items c.args.i) ∙ ap (λ v. Q v.seen) c.self.view_is

pub returns-else-i-self-clause-gone : goal.returns-else-i-self-clause-gone
returns-else-i-self-clause-gone c =
    let long = ap (λ v. length v.seen.held) c.self.view_is in
    let bound : c.args.i < length c.self.inside.rows.items = omega (arith, c.requires, length-map c.self.inside.rows.items held_of) in
    let removed : c.remove-2.new.self.items ≡ remove c.self.inside.rows.items c.args.i = grind (arith, common_steps) in
    let P : List Held → Outbox = λ hs. record { held = hs; links = c.self.inside.links.seen } in
    let Q : Outbox → Outbox = λ o. record { held = remove o.held c.args.i; links = o.links } in
    ap P (ap (map held_of) removed ∙ map-remove held_of c.self.inside.rows.items c.args.i) ∙ ap (λ v. Q v.seen) c.self.view_is
