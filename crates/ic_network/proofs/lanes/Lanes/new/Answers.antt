use Rattle.std.proofs.Common.{refl}
use Rattle.ic_network.proofs.Leaving.{kept-none, kept-same}
use Rattle.ic_network.specs.declared.lanes.TheConstants.{LANES}
use Rattle.ic_network.proofs.lanes.Lanes.new.Goals as goal

pub invariant_of-result : goal.invariant_of-result
invariant_of-result c =
    let none = kept-none LANES c.in_ok-vec.field-0.items c.in_ok-vec-2.field-0.items refl (c.in_ok-vec.ensures.items_if_clones_equal (λ y h. h)) (c.in_ok-vec-2.ensures.items_if_clones_equal (λ y h. h)) in
    kept-same _ _ _ _ _ _ _ _ _ _ _ _ c.new.ensures.items c.new-2.ensures.items c.new-3.ensures.items refl refl refl none
