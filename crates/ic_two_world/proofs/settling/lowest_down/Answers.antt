use Rattle.std.proofs.Common.{◌∙◌, sym, refl, length}
use Rattle.std.proofs.lemmas.Option.{slice_get_read}
use Rattle.ic_seat.specs.Seats.{is_up}
use Rattle.ic_two_world.proofs.Settled.{not-true, not-false, up-further, down-here}
use Rattle.ic_two_world.proofs.settling.lowest_down.Goals as goal

pub returns-then-is_down : goal.returns-then-is_down
returns-then-is_down g c =
    let xs = c.args.seats.now in
    let i = c.loop-c.c in
    let x = c.index-seats-c.result in
    sym (c.loop-c.invariant ∙ down-here xs i i x (slice_get_read xs (length xs) i x refl c.loop-c-test.true c.index-seats-c.is) (not-true (is_up x) (sym c.is_down.ensures ∙ c.if-is_down.true)))

pub loop-c-preserved : goal.loop-c-preserved
loop-c-preserved g c =
    let xs = c.args.seats.now in
    let i = c.loop-c.c in
    let x = c.index-seats-c.result in
    c.loop-c.invariant ∙ up-further xs i i x (slice_get_read xs (length xs) i x refl c.loop-c-test.true c.index-seats-c.is) (not-false (is_up x) (sym c.is_down.ensures ∙ c.if-is_down.false))
