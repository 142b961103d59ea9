use Rattle.std.proofs.Common.{◌≡◌, false, take}
use Rattle.ic_live.specs.Ends.{is_among}
use Rattle.ic_live.proofs.lending.push_one.Given as goal

abbrev pub invariant-loop-at : goal.invariant-loop-at
invariant-loop-at g l = (l.outs.items ≡ l.fn.outs.items) × (is_among (take l.at l.peers) l.to ≡ false)
