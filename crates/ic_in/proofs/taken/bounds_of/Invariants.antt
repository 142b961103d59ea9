use Rattle.std.proofs.Common.{◌≡◌, take, map}
use Rattle.ic_in.specs.Senders.{Part}
use Rattle.ic_in.proofs.taken.bounds_of.Given as goal

abbrev pub invariant-loop-from : goal.invariant-loop-from
invariant-loop-from l = l.bounds.items ≡ map (λ (s : Part). (s.0, s.1)) (take l.from-index l.senders)
