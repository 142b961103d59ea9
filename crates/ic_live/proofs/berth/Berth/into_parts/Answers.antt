use Rattle.ic_live.proofs.Endings.{holds-whole}
use Rattle.ic_live.proofs.berth.Berth.into_parts.Goals as goal

pub returns-clause-holds : goal.returns-clause-holds
returns-clause-holds g c =
    let X = g.X.Held in
    let N = g.N.Scene in
    rw (← c.self.view_is) (holds-whole X.node X.which X.file X.tells X.is_over X.has_disk X.faults X.fails N.program N.fingerprint N.plan N.lane N.began g.M.Mark.honest c.self.inside.fingerprint c.self.inside.peers.items _ c.self.invariant)
