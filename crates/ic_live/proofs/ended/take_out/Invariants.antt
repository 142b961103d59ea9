use Rattle.std.proofs.Common.{◌≡◌, ◌+◌, length}
use Rattle.ic_live.specs.Berthed.{berthed}
use Rattle.ic_live.specs.Berths.{BerthHolds}
use Rattle.ic_live.specs.Ended.{AreEnded}
use Rattle.ic_live.proofs.ended.take_out.Given as goal

abbrev pub invariant-loop-lock : goal.invariant-loop-lock
invariant-loop-lock g l =
    AreEnded (BerthHolds g.X.Held.node g.X.Held.which g.X.Held.file g.X.Held.tells g.X.Held.is_over g.X.Held.has_disk g.X.Held.faults g.X.Held.fails g.N.Scene.program g.N.Scene.fingerprint g.N.Scene.plan g.N.Scene.lane g.N.Scene.began g.M.Mark.honest g.N.Scene.fingerprint (berthed g.N.Scene.program)) l.ended.components l.ended.progresses l.ended.refusals l.ended.ins l.ended.outs
    × (length l.ended.components + length l.berths.items ≡ length l.fn.berths.items)

abbrev pub decreases-loop-lock : goal.decreases-loop-lock
decreases-loop-lock g l = length l.berths.items
