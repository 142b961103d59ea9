use Rattle.std.proofs.Common.{◌∷◌, [], ap, ◌∙◌, map}
use Rattle.std.proofs.lemmas.List.{map-append}
use Rattle.def_state.specs.Image.{many_at, output_at}
use Rattle.def_state.specs.ImagePlaces.{items, output}
use Rattle.ic_edge.specs.RoomyShelf.{due_at_once}
use Rattle.ic_wire.proofs.Loops.{goes_on, is_done}
use Rattle.ic_ckpt.proofs.Loops.{items-next, many-repeats}
use Rattle.ic_ckpt.proofs.reading.outputs.Goals as goal

pub loop-preserved : goal.loop-preserved
loop-preserved c =
    let next = c.in-Ok.next in
    record {
      read =
          rw (ap (map due_at_once) c.in_ok-push-in-Ok.ensures.ok ∙ map-append due_at_once c.loop.outputs (next ∷ []))
          (goes_on (many-repeats output_at) (map due_at_once c.loop.outputs) c.args.count c.loop.counter c.loop.rest.now (due_at_once next) c.in-Ok.more.now (many_at output_at c.args.count c.args.bytes.now) c.loop-test.true c.in-Ok.ensures.read c.loop.invariant.read);
      place = items-next (output c.args.program.now c.args.made) c.args.count c.loop.counter c.loop.last next.m c.loop.rest.now c.in-Ok.more.now (items (output c.args.program.now c.args.made) c.args.count 0 c.args.bytes.now) c.loop-test.true c.in-Ok.ensures.place c.loop.invariant.place;
    }

pub returns-clause-read : goal.returns-clause-read
returns-clause-read c = is_done (many-repeats output_at) (map due_at_once c.loop.outputs) c.args.count c.loop.counter c.loop.rest.now (many_at output_at c.args.count c.args.bytes.now) c.loop-test.false c.loop.invariant.read
