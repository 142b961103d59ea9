use Rattle.std.proofs.Common.{◌∙◌, ap, List, map}
use Rattle.std.specs.List.{list_any}
use Rattle.def_state.specs.Names.{same_identity}
use Rattle.ic_index.specs.declared.arrivals.Arrival.{Arrival}
use Rattle.ic_index.specs.Rows.{arrived, are_numbered, are_indexed, number_kept}
use Rattle.ic_index.proofs.Leaving.{indexed-same, no_other-same}
use Rattle.ic_index.proofs.arrivals.Arrivals.reserve.Goals as goal

pub invariant_of-self-2 : goal.invariant_of-self-2
invariant_of-self-2 c = (
  ap (are_numbered c.self.inside.next) c.reserve.ensures.items ∙ c.self.invariant.0,
  ap (are_indexed (number_kept c.reserve-2.new.self)) c.reserve.ensures.items
      ∙ indexed-same (number_kept c.self.inside.numbers) (number_kept c.reserve-2.new.self) c.self.inside.order.items (λ x. c.reserve-2.ensures.entries.2 (x.peer.0, x.k)) c.self.invariant.1,
  λ x n e.
      ap (λ (rows : List Arrival). list_any (same_identity x) (map arrived rows)) c.reserve.ensures.items
      ∙ no_other-same (number_kept c.self.inside.numbers) (number_kept c.reserve-2.new.self) c.self.inside.order.items (λ x. c.reserve-2.ensures.entries.2 (x.peer.0, x.k)) c.self.invariant.2 x n e,
)
