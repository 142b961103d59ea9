use Rattle.std.proofs.Common.{◌≡◌, ◌-◌, map}
use Rattle.def_state.specs.Image.{many_at, output_at}
use Rattle.def_state.specs.ImagePlaces.{items, output}
use Rattle.ic_edge.specs.RoomyShelf.{due_at_once}
use Rattle.ic_wire.proofs.Loops.{with_front}
use Rattle.ic_ckpt.proofs.reading.outputs.Given as goal

abbrev pub invariant-loop : goal.invariant-loop
invariant-loop l = record {
  read : with_front (map due_at_once l.outputs) (many_at output_at (l.count - l.counter) l.rest) ≡ many_at output_at l.count l.bytes;
  place : items (output l.program l.made) (l.count - l.counter) l.last l.rest ≡ items (output l.program l.made) l.count 0 l.bytes;
}
