use Rattle.std.proofs.Common.{◌+◌, ◌-◌, ◌==◌, cond, get_or, length}
use Rattle.ic_network.specs.Kept.{IsWalked}
use Rattle.ic_network.proofs.lanes.Lanes.behind_on_lane.Given as goal

abbrev pub invariant-loop-at : goal.invariant-loop-at
invariant-loop-at l = IsWalked l.self-inside.lanes.items l.self-inside.waits.items (get_or l.self-inside.lanes.items (l.number - 1) 0) l.number l.at

abbrev pub decreases-loop-at : goal.decreases-loop-at
decreases-loop-at l = cond (l.at == 0) 0 (length l.self-inside.lanes.items + 1 - l.at)
