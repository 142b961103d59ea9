use Rattle.std.proofs.Common.{◌≡◌, ◌-◌, length}
use Rattle.def_log.specs.Reading.{values_at}
use Rattle.def_state.specs.ImagePlaces.{items, values}
use Rattle.ic_wire.proofs.Loops.{with_front}
use Rattle.law_image.proofs.Items.{value_step}
use Rattle.ic_ckpt.proofs.reading.values.Given as goal

abbrev pub invariant-loop : goal.invariant-loop
invariant-loop l = record {
  read : with_front l.values (values_at (l.count - l.counter) l.rest) ≡ values_at l.count l.bytes;
  count : length l.values ≡ l.counter;
  place : items value_step (l.count - l.counter) (length l.values) l.rest ≡ values l.count l.bytes;
}
