use Rattle.std.proofs.Common.{◌≡◌, ◌≤◌, length}
use Rattle.std.specs.Prelude.{reverse}
use Rattle.std.specs.Vec.{vec_capacity}
use Rattle.ic_world.specs.Making.{Stands}
use Rattle.ic_world.proofs.making.make_each.Given as goal

abbrev pub invariant-loop-i : goal.invariant-loop-i
invariant-loop-i g l = Stands g.D.Disk l.way l.program l.fingerprint (reverse l.fn.rest.items) l.made.items (reverse l.rest.items) × (length l.made.items ≡ l.i) × (length l.program.components ≤ vec_capacity l.made)
