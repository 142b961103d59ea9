use Rattle.std.proofs.Common.{◌++◌, ◌∷◌, [], ap, ◌∙◌, map}
use Rattle.std.proofs.lemmas.List.{map-append}
use Rattle.def_state.specs.Image.{many_at, part_at}
use Rattle.def_state.specs.ImagePlaces.{items, sender}
use Rattle.ic_in.specs.Senders.{Part}
use Rattle.ic_wire.proofs.Loops.{goes_on, is_done}
use Rattle.ic_ckpt.proofs.Loops.{items-next, many-repeats}
use Rattle.ic_ckpt.proofs.reading.senders.Goals as goal

pub loop-preserved : goal.loop-preserved
loop-preserved c =
    let next = c.in_ok-next.next in
    record {
      read = rw c.in_ok-push.ensures.ok (goes_on (many-repeats part_at) c.loop.senders c.args.count c.loop.counter c.loop.rest.now next c.in_ok-next.more.now (many_at part_at c.args.count c.args.bytes.now) c.loop-test.true c.in_ok-next.ensures.read c.loop.invariant.read);
      place =
          rw (ap (map (λ (s : Part). s.0.0)) c.in_ok-push.ensures.ok ∙ map-append (λ (s : Part). s.0.0) c.loop.senders (next ∷ []))
          (items-next (sender c.args.program.now c.args.c) c.args.count c.loop.counter (map (λ (s : Part). s.0.0) c.loop.senders) (map (λ (s : Part). s.0.0) c.loop.senders ++ next.0.0 ∷ []) c.loop.rest.now c.in_ok-next.more.now (items (sender c.args.program.now c.args.c) c.args.count [] c.args.bytes.now) c.loop-test.true c.in_ok-next.ensures.place c.loop.invariant.place);
    }

pub returns-clause-read : goal.returns-clause-read
returns-clause-read c = is_done (many-repeats part_at) c.loop.senders c.args.count c.loop.counter c.loop.rest.now (many_at part_at c.args.count c.args.bytes.now) c.loop-test.false c.loop.invariant.read
