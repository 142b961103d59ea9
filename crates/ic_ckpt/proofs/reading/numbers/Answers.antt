use Rattle.def_log.specs.Reading.{count_at}
use Rattle.def_state.specs.Image.{many_at}
use Rattle.def_state.specs.ImagePlaces.{items, above}
use Rattle.ic_wire.proofs.Loops.{goes_on, is_done}
use Rattle.ic_ckpt.proofs.Loops.{items-next, many-repeats}
use Rattle.ic_ckpt.proofs.reading.numbers.Goals as goal

pub loop-preserved : goal.loop-preserved
loop-preserved c =
    record {
      read = rw c.in_ok-push.ensures.ok (goes_on (many-repeats count_at) c.loop.numbers c.args.count c.loop.counter c.loop.rest.now c.in_ok-k.k c.in_ok-k.more.now (many_at count_at c.args.count c.args.bytes.now) c.loop-test.true c.in_ok-k.ensures.read c.loop.invariant.read);
      place = items-next above c.args.count c.loop.counter c.loop.last c.in_ok-k.k c.loop.rest.now c.in_ok-k.more.now (items above c.args.count c.args.first c.args.bytes.now) c.loop-test.true c.in_ok-k.ensures.place c.loop.invariant.place;
    }

pub returns-clause-read : goal.returns-clause-read
returns-clause-read c = is_done (many-repeats count_at) c.loop.numbers c.args.count c.loop.counter c.loop.rest.now (many_at count_at c.args.count c.args.bytes.now) c.loop-test.false c.loop.invariant.read
