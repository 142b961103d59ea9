use Rattle.std.proofs.Common.{◌≡◌, ◌-◌, length, take}
use Rattle.def_log.specs.Reading.{values_at}
use Rattle.ic_wire.proofs.Loops.{with_front}
use Rattle.ic_wire.proofs.fields.read_values.Given as goal

abbrev pub invariant-loop-i : goal.invariant-loop-i
invariant-loop-i l = with_front (take l.i l.values) (values_at (length l.fn.values - l.i) l.rest) ≡ values_at (length l.fn.values) l.bytes
