use Rattle.std.proofs.Common.{◌≡◌, true}
use Rattle.ic_world.proofs.Renewals.{AreLaidDown}
use Rattle.ic_world.proofs.renewing.World+TornDisk+D.renew.Given as goal

-- the first of its components crashed, and it makes no further step
abbrev pub invariant-loop-i : goal.invariant-loop-i
invariant-loop-i g l = (l.self.over ≡ true) × (l.self.fingerprint ≡ l.fn.self.fingerprint) × AreLaidDown g.D.Disk l.fn.self.fingerprint l.fn.self.components.items l.i l.self.components.items
