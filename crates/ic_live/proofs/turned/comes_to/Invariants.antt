use Rattle.std.proofs.Common.{◌≡◌, ◌≤◌}
use Rattle.ic_live.specs.Turned.{comes_to}
use Rattle.ic_live.proofs.turned.comes_to.Given as goal

abbrev pub invariant-loop-turn : goal.invariant-loop-turn
invariant-loop-turn l = (l.comes ≡ comes_to l.count l.place l.worker l.turn) × (l.comes ≤ l.turn)
