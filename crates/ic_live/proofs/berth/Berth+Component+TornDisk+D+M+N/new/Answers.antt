use Rattle.std.proofs.Common.{refl}
use Rattle.ic_live.specs.Carrying.{FailsToCarryOut}
use Rattle.ic_live.proofs.Moored.{first-holds}
use Rattle.ic_live.proofs.berth.Berth+Component+TornDisk+D+M+N.new.Goals as goal

pub invariant_of-result : goal.invariant_of-result
invariant_of-result g c =
    first-holds (FailsToCarryOut g.D.Disk) g.N.Scene.program g.N.Scene.fingerprint g.N.Scene.plan g.N.Scene.lane g.N.Scene.began g.M.Mark.honest c.args.fingerprint c.args.peers.items _ c.args.events c.requires.print c.requires.begins refl c.new.ensures.left c.new.ensures.shown c.new.ensures.answers
