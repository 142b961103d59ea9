use Rattle.std.proofs.Common.{◌≡◌, ◌+◌, ◌++◌, ◌∷◌, [], length, ap, ◌∙◌, arith}
use Rattle.std.specs.Int.{w64}
use Rattle.std.proofs.lemmas.Int.{to_z-of_z}
use Rattle.std.proofs.lemmas.List.{length-append}
use Rattle.def_log.specs.Reading.{values_at}
use Rattle.def_state.specs.ImagePlaces.{values}
use Rattle.ic_wire.proofs.Loops.{values_repeat, goes_on, is_done}
use Rattle.law_image.proofs.Items.{value_step}
use Rattle.ic_ckpt.proofs.Loops.{value-read, items-next}
use Rattle.ic_ckpt.proofs.reading.values.Goals as goal

pub loop-preserved : goal.loop-preserved
loop-preserved c =
    let pushed : c.push.new.self ≡ c.loop.values ++ c.in_ok-x.x ∷ [] = c.in_ok-push.ensures.ok ∙ ap (λ z. c.loop.values ++ z ∷ []) (to_z-of_z w64 c.in_ok-x.x c.in_ok-x.ensures.fit) in
    let more : length c.push.new.self ≡ length c.loop.values + 1 = ap length pushed ∙ length-append c.loop.values (c.in_ok-x.x ∷ []) in
    record {
      read = rw pushed (goes_on values_repeat c.loop.values c.args.count c.loop.counter c.loop.rest.now c.in_ok-x.x c.in_ok-x.more.now (values_at c.args.count c.args.bytes.now) c.loop-test.true c.in_ok-x.ensures.read c.loop.invariant.read);
      count = omega (arith, more, c.loop.invariant.count);
      place = rw more (items-next value_step c.args.count c.loop.counter (length c.loop.values) (length c.loop.values + 1) c.loop.rest.now c.in_ok-x.more.now (values c.args.count c.args.bytes.now) c.loop-test.true (value-read (length c.loop.values) c.loop.rest.now c.in_ok-x.x c.in_ok-x.more.now c.in_ok-x.ensures.place) c.loop.invariant.place);
    }

pub returns-clause-read : goal.returns-clause-read
returns-clause-read c = is_done values_repeat c.loop.values c.args.count c.loop.counter c.loop.rest.now (values_at c.args.count c.args.bytes.now) c.loop-test.false c.loop.invariant.read
