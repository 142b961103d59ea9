use Rattle.std.proofs.Common.{◌≡◌, ◌-◌, [], map}
use Rattle.def_state.specs.Image.{many_at, part_at}
use Rattle.def_state.specs.ImagePlaces.{items, sender}
use Rattle.ic_wire.proofs.Loops.{with_front}
use Rattle.ic_ckpt.proofs.reading.senders.Given as goal

abbrev pub invariant-loop : goal.invariant-loop
invariant-loop l = record {
  read : with_front l.senders (many_at part_at (l.count - l.counter) l.rest) ≡ many_at part_at l.count l.bytes;
  place : items (sender l.program l.c) (l.count - l.counter) (map (λ s. s.0.0) l.senders) l.rest ≡ items (sender l.program l.c) l.count [] l.bytes;
}
