use Rattle.std.proofs.Common.{◌≡◌, ◌-◌, []}
use Rattle.def_state.specs.Image.{many_at, link_at}
use Rattle.def_state.specs.ImagePlaces.{items, link}
use Rattle.ic_wire.proofs.Loops.{with_front}
use Rattle.ic_ckpt.proofs.reading.links.Given as goal

abbrev pub invariant-loop : goal.invariant-loop
invariant-loop l = record {
  read : with_front l.links (many_at link_at (l.count - l.counter) l.rest) ≡ many_at link_at l.count l.bytes;
  place : items (link l.program l.c) (l.count - l.counter) l.links l.rest ≡ items (link l.program l.c) l.count [] l.bytes;
}
