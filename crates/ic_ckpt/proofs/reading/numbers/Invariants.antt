use Rattle.std.proofs.Common.{◌≡◌, ◌-◌}
use Rattle.def_log.specs.Reading.{count_at}
use Rattle.def_state.specs.Image.{many_at}
use Rattle.def_state.specs.ImagePlaces.{items, above}
use Rattle.ic_wire.proofs.Loops.{with_front}
use Rattle.ic_ckpt.proofs.reading.numbers.Given as goal

abbrev pub invariant-loop : goal.invariant-loop
invariant-loop l = record {
  read : with_front l.numbers (many_at count_at (l.count - l.counter) l.rest) ≡ many_at count_at l.count l.bytes;
  place : items above (l.count - l.counter) l.last l.rest ≡ items above l.count l.first l.bytes;
}
