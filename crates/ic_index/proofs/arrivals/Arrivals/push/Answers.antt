use Rattle.std.proofs.Common.{◌≡◌, ◌∙◌, ap, refl, ◌+◌, false, List, map}
use Rattle.std.specs.List.{list_any}
use Rattle.def_state.specs.Names.{same_identity}
use Rattle.ic_index.specs.declared.arrivals.Arrival.{Arrival}
use Rattle.ic_index.specs.Rows.{arrived, are_numbered, are_indexed, number_kept}
use Rattle.ic_index.proofs.Leaving.{Keeps, numbered-push, indexed-push, no_other-push, on-ok}
use Rattle.ic_index.proofs.arrivals.Arrivals.push.Goals as goal

pub invariant_of-self : goal.invariant_of-self
invariant_of-self c =
    let a : Arrival = record { peer = c.args.peer; k = c.args.k; number = c.self.inside.next } in
    let pushed = c.push_back_reserved.ensures.items in
    let updates = on-ok c.insert.result (c.if-is_err.ensures {u = tt}).negation c.insert.ensures.updates in
    let kept : Keeps (number_kept c.self.inside.numbers) (number_kept c.insert.new.self) (arrived a) a.number = (updates.1, λ y other. updates.2 (y.peer.0, y.k) other) in
    let new : list_any (same_identity (arrived a)) (map arrived c.self.inside.order.items) ≡ false = ap (λ v. list_any (same_identity (arrived a)) v.seen) c.self.view_is ∙ c.requires.new in (
      ap (are_numbered (c.self.inside.next + 1)) pushed ∙ numbered-push c.self.inside.next c.self.inside.order.items a c.self.invariant.0 refl,
      ap (are_indexed (number_kept c.insert.new.self)) pushed
          ∙ indexed-push (number_kept c.self.inside.numbers) (number_kept c.insert.new.self) c.self.inside.order.items a c.self.invariant.1 new kept,
      λ x n e.
          ap (λ (rows : List Arrival). list_any (same_identity x) (map arrived rows)) pushed
          ∙ no_other-push (number_kept c.self.inside.numbers) (number_kept c.insert.new.self) c.self.inside.order.items a c.self.invariant.2 kept x n e,
    )
