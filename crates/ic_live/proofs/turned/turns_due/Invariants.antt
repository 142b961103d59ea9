use Rattle.std.proofs.Common.{◌≡◌, ◌≤◌, ◌*◌}
use Rattle.ic_live.specs.Turned.{turns_due}
use Rattle.ic_live.proofs.turned.turns_due.Given as goal

abbrev pub invariant-loop-worker : goal.invariant-loop-worker
invariant-loop-worker l = (l.due ≡ turns_due l.count l.place l.turns l.worker) × (l.due ≤ l.worker * 4294967296)
