use Rattle.std.proofs.Common.{◌≡◌, take, length}
use Rattle.ic_live.specs.Ends.{ArePushed, MayPush}
use Rattle.ic_live.proofs.lending.push_all.Given as goal

abbrev pub invariant-loop-p : goal.invariant-loop-p
invariant-loop-p g l = (length l.outs.items ≡ length l.peers) × ArePushed l.c l.peers l.fn.outs.items l.outs.items (take l.p-index l.puts) × (g.M.Mark.honest → MayPush l.c l.peers l.outs.items l.puts)
