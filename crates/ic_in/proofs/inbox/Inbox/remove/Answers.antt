use Rattle.std.proofs.Common.{◌≡◌, ◌∙◌, ap, sym, refl, arith, cond, length, ◌<◌, ◌-◌, map, List}
use Rattle.std.specs.List.{remove}
use Rattle.std.proofs.lemmas.Grind.{common_steps}
use Rattle.std.proofs.lemmas.Bool.{lt-ltb, le-ltb}
use Rattle.std.proofs.lemmas.List.{length-map}
use Rattle.def_state.specs.Inbox.{Receipt, Inbox}
use Rattle.ic_index.proofs.Reading.{map-remove}
use Rattle.ic_in.specs.Views.{receipt_of}
use Rattle.ic_in.proofs.Kept.{kept-remove, kept-same}
use Rattle.ic_in.proofs.inbox.Inbox.remove.Goals as goal

pub invariant_of-self : goal.invariant_of-self
invariant_of-self c =
    let long = ap (λ v. length v.seen.receipts) c.self.view_is in
    let bound : c.args.i < length c.self.inside.rows.items = omega (arith, c.requires, length-map c.self.inside.rows.items receipt_of) in
    let removed : c.remove-2.new.self.items ≡ remove c.self.inside.rows.items c.args.i = grind (arith, common_steps) in
    let kept = kept-remove c.self.inside.taken.seen c.self.inside.rows.items c.self.inside.names.seen c.self.inside.first c.self.inside.quiet c.args.i c.self.invariant bound in
    kept-same _ _ _ _ _ _ _ _ _ _ refl removed c.remove.ensures.gone (sym (ap (λ b. cond b (c.self.inside.first - 1) c.self.inside.first) (lt-ltb c.args.i c.self.inside.first c.if-i-self.true))) refl kept

pub invariant_of-self-else-i-self : goal.invariant_of-self-else-i-self
invariant_of-self-else-i-self c =
    let long = ap (λ v. length v.seen.receipts) c.self.view_is in
    let bound : c.args.i < length c.self.inside.rows.items = omega (arith, c.requires, length-map c.self.inside.rows.items receipt_of) in
    let removed : c.remove-2.new.self.items ≡ remove c.self.inside.rows.items c.args.i = grind (arith, common_steps) in
    let kept = kept-remove c.self.inside.taken.seen c.self.inside.rows.items c.self.inside.names.seen c.self.inside.first c.self.inside.quiet c.args.i c.self.invariant bound in
    kept-same _ _ _ _ _ _ _ _ _ _ refl removed c.remove.ensures.gone (sym (ap (λ b. cond b (c.self.inside.first - 1) c.self.inside.first) (le-ltb c.args.i c.self.inside.first c.if-i-self.false))) refl kept

pub returns-then-i-self-clause-gone : goal.returns-then-i-self-clause-gone
returns-then-i-self-clause-gone c =
    let long = ap (λ v. length v.seen.receipts) c.self.view_is in
    let bound : c.args.i < length c.self.inside.rows.items = omega (arith, c.requires, length-map c.self.inside.rows.items receipt_of) in
    let removed : c.remove-2.new.self.items ≡ remove c.self.inside.rows.items c.args.i = grind (arith, common_steps) in
    let P : List Receipt → Inbox = λ rs. record { taken = c.self.inside.taken.seen; receipts = rs } in
    let Q : Inbox → Inbox = λ o. record { taken = o.taken; receipts = remove o.receipts c.args.i } in
    ap P (ap (map receipt_of) removed ∙ map-remove receipt_of c.self.inside.rows.items c.args.i) ∙ ap (λ v. Q v.seen) c.self.view_is

pub returns-else-i-self-clause-gone : goal.returns-else-i-self-clause-gone
returns-else-i-self-clause-gone c =
    let long = ap (λ v. length v.seen.receipts) c.self.view_is in
    let bound : c.args.i < length c.self.inside.rows.items = omega (arith, c.requires, length-map c.self.inside.rows.items receipt_of) in
    let removed : c.remove-2.new.self.items ≡ remove c.self.inside.rows.items c.args.i = grind (arith, common_steps) in
    let P : List Receipt → Inbox = λ rs. record { taken = c.self.inside.taken.seen; receipts = rs } in
    let Q : Inbox → Inbox = λ o. record { taken = o.taken; receipts = remove o.receipts c.args.i } in
    ap P (ap (map receipt_of) removed ∙ map-remove receipt_of c.self.inside.rows.items c.args.i) ∙ ap (λ v. Q v.seen) c.self.view_is
