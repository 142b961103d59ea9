use Rattle.ic_moves.proofs.Waiting.{kept_new}
use Rattle.ic_moves.proofs.network.Network2.new.Goals as goal

pub invariant_of-result : goal.invariant_of-result
invariant_of-result c = kept_new _ _ _ c.new.ensures.items c.new-2.ensures.items (c.in_ok-vec.ensures.items_if_clones_equal (λ y e. e))
