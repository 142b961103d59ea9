use Rattle.std.proofs.Common.{◌≡◌, ◌-◌}
use Rattle.def_log.specs.Reading.{writes_at}
use Rattle.ic_wire.proofs.Loops.{with_front}
use Rattle.ic_wire.proofs.fields.writes_of.Given as goal

abbrev pub invariant-loop : goal.invariant-loop
invariant-loop l = with_front l.writes (writes_at (l.count - l.counter) l.rest) ≡ writes_at l.count l.bytes
