use Rattle.std.proofs.Common.{[], ◌++◌, ◌∷◌}
use Rattle.def_state.specs.Image.{many_at, link_at}
use Rattle.def_state.specs.ImagePlaces.{items, link}
use Rattle.ic_wire.proofs.Loops.{goes_on, is_done}
use Rattle.ic_ckpt.proofs.Loops.{items-next, many-repeats}
use Rattle.ic_ckpt.proofs.reading.links.Goals as goal

pub loop-preserved : goal.loop-preserved
loop-preserved c =
    record {
      read = rw c.in_ok-push.ensures.ok (goes_on (many-repeats link_at) c.loop.links c.args.count c.loop.counter c.loop.rest.now c.in_ok-next.next c.in_ok-next.more.now (many_at link_at c.args.count c.args.bytes.now) c.loop-test.true c.in_ok-next.ensures.read c.loop.invariant.read);
      place = rw c.in_ok-push.ensures.ok (items-next (link c.args.program.now c.args.c) c.args.count c.loop.counter c.loop.links (c.loop.links ++ c.in_ok-next.next ∷ []) c.loop.rest.now c.in_ok-next.more.now (items (link c.args.program.now c.args.c) c.args.count [] c.args.bytes.now) c.loop-test.true c.in_ok-next.ensures.place c.loop.invariant.place);
    }

pub returns-clause-read : goal.returns-clause-read
returns-clause-read c = is_done (many-repeats link_at) c.loop.links c.args.count c.loop.counter c.loop.rest.now (many_at link_at c.args.count c.args.bytes.now) c.loop-test.false c.loop.invariant.read
