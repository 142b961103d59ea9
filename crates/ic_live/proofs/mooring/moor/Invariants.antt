use Rattle.std.proofs.Common.{◌≡◌, ◌+◌, ◌++◌, List, length}
use Rattle.ic_lane.specs.Lanes.{Out, In}
use Rattle.ic_live.proofs.mooring.moor.Given as goal

abbrev pub invariant-loop-o : goal.invariant-loop-o
invariant-loop-o g l =
    (length l.outs ≡ length l.components) × (length l.ins ≡ length l.components) × (length l.berths.items + length l.components ≡ length l.fn.components)
    × ((xs : List _) × (l.fn.components ≡ l.components ++ xs)) × ((os : List (List Out)) × (l.fn.outs ≡ l.outs ++ os)) × ((is : List (List In)) × (l.fn.ins ≡ l.ins ++ is))

abbrev pub decreases-loop-o : goal.decreases-loop-o
decreases-loop-o g l = length l.outs
