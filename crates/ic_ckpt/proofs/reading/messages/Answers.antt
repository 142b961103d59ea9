use Rattle.std.proofs.Common.{◌≡◌, subst, Ok, ◌∷◌, [], ap, ◌∙◌, map}
use Rattle.std.proofs.lemmas.List.{map-append}
use Rattle.def_state.specs.Names.{Numbers, put_number}
use Rattle.def_state.specs.Image.{many_at, message_at}
use Rattle.def_state.specs.ImagePlaces.{items, message}
use Rattle.ic_out.specs.Views.{held_in_image}
use Rattle.ic_wire.proofs.Loops.{goes_on, is_done}
use Rattle.ic_ckpt.proofs.Loops.{items-next, many-repeats}
use Rattle.ic_ckpt.proofs.reading.messages.Goals as goal

pub loop-preserved : goal.loop-preserved
loop-preserved c =
    let next = c.in-Ok.next in
    let last : c.put.new.self.seen ≡ put_number next.to next.k c.loop.last.seen = c.put.ensures.put ∙ ap (put_number next.to next.k) c.in_ok-reserve-in-Ok.ensures.same in
    record {
      read =
          rw (ap (map held_in_image) c.in_ok-push-in-Ok.ensures.ok ∙ map-append held_in_image c.loop.messages (next ∷ []))
          (goes_on (many-repeats (message_at c.args.c)) (map held_in_image c.loop.messages) c.args.count c.loop.counter c.loop.rest.now (held_in_image next) c.in-Ok.more.now (many_at (message_at c.args.c) c.args.count c.args.bytes.now) c.loop-test.true c.in-Ok.ensures.read c.loop.invariant.read);
      place =
          rw last
          (items-next (message c.args.program.now c.args.c c.args.clock c.args.links.now) c.args.count c.loop.counter c.loop.last.seen (put_number next.to next.k c.loop.last.seen) c.loop.rest.now c.in-Ok.more.now (items (message c.args.program.now c.args.c c.args.clock c.args.links.now) c.args.count [] c.args.bytes.now) c.loop-test.true (subst (λ (z : Numbers). message c.args.program.now c.args.c c.args.clock z c.loop.last.seen c.loop.rest.now ≡ Ok (put_number next.to next.k c.loop.last.seen, c.in-Ok.more.now)) (c.in_ok-sent.ensures ∙ c.as_slice.ensures) c.in-Ok.ensures.place) c.loop.invariant.place);
    }

pub returns-clause-read : goal.returns-clause-read
returns-clause-read c = is_done (many-repeats (message_at c.args.c)) (map held_in_image c.loop.messages) c.args.count c.loop.counter c.loop.rest.now (many_at (message_at c.args.c) c.args.count c.args.bytes.now) c.loop-test.false c.loop.invariant.read
