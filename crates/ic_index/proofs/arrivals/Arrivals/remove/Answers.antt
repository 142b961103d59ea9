use Rattle.std.proofs.Common.{◌≡◌, ◌∙◌, ap, arith, List, map, ◌<◌, length, Some}
use Rattle.std.specs.Prelude.{slice_get}
use Rattle.std.specs.List.{remove, list_any}
use Rattle.std.proofs.lemmas.List.{length-map}
use Rattle.def_state.specs.Names.{same_identity}
use Rattle.ic_index.specs.declared.arrivals.Arrival.{Arrival}
use Rattle.ic_index.specs.Rows.{arrived, are_numbered, are_indexed, number_kept}
use Rattle.ic_index.proofs.Arriving.{number-at}
use Rattle.ic_index.proofs.Leaving.{numbered-remove, indexed-remove, no_other-remove, arrived-remove}
use Rattle.ic_index.proofs.Reading.{get-read}
use Rattle.ic_index.proofs.arrivals.Arrivals.remove.Goals as goal

pub invariant_of-self : goal.invariant_of-self
invariant_of-self c =
    let removed : c.remove.new.self.items ≡ remove c.self.inside.order.items c.args.i = c.in-Some.ensures.items in
    let same = ap (λ v. length v.seen) c.self.view_is in
    let within : c.args.i < length c.self.inside.order.items = omega (arith, c.requires, length-map c.self.inside.order.items arrived) in
    let at : slice_get c.self.inside.order.items c.args.i ≡ Some c.in-Some.a = get-read c.self.inside.order.items c.args.i c.in-Some.a within c.in-Some.ensures.value in
    let number = number-at (number_kept c.self.inside.numbers) c.self.inside.order.items c.args.i c.in-Some.a c.self.invariant.1 at in (
      ap (are_numbered c.self.inside.next) removed ∙ numbered-remove c.self.inside.next c.self.inside.order.items c.args.i c.self.invariant.0,
      ap (are_indexed (number_kept c.remove-in-Some.new.self)) removed
          ∙ indexed-remove c.self.inside.next (number_kept c.self.inside.numbers) (number_kept c.remove-in-Some.new.self) c.self.inside.order.items c.args.i c.in-Some.a (λ y other. c.remove-in-Some.ensures.updates.2 (y.peer.0, y.k) other) c.self.invariant.0 at number c.self.invariant.1,
      λ x n e.
          ap (λ (rows : List Arrival). list_any (same_identity x) (map arrived rows)) removed
          ∙ no_other-remove (number_kept c.self.inside.numbers) (number_kept c.remove-in-Some.new.self) c.self.inside.order.items c.args.i c.in-Some.a c.remove-in-Some.ensures.updates.1 (λ y other. c.remove-in-Some.ensures.updates.2 (y.peer.0, y.k) other) at c.self.invariant.2 x n e,
    )

pub returns-in-Some-clause-gone : goal.returns-in-Some-clause-gone
returns-in-Some-clause-gone c =
    let removed : c.remove.new.self.items ≡ remove c.self.inside.order.items c.args.i = c.in-Some.ensures.items in
    ap (map arrived) removed ∙ arrived-remove c.self.inside.order.items c.args.i ∙ ap (λ v. remove v.seen c.args.i) c.self.view_is
