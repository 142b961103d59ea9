use Rattle.std.proofs.Common.{◌≡◌, ◌-◌, [], map}
use Rattle.def_state.specs.Image.{many_at, message_at}
use Rattle.def_state.specs.ImagePlaces.{items, message}
use Rattle.ic_out.specs.Views.{held_in_image}
use Rattle.ic_wire.proofs.Loops.{with_front}
use Rattle.ic_ckpt.proofs.reading.messages.Given as goal

abbrev pub invariant-loop : goal.invariant-loop
invariant-loop l = record {
  read : with_front (map held_in_image l.messages) (many_at (message_at l.c) (l.count - l.counter) l.rest) ≡ many_at (message_at l.c) l.count l.bytes;
  place : items (message l.program l.c l.clock l.links) (l.count - l.counter) l.last.seen l.rest ≡ items (message l.program l.c l.clock l.links) l.count [] l.bytes;
}
