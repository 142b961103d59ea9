use Rattle.std.proofs.Common.{◌≡◌, ◌∙◌, sym, get_or, arith}
use Rattle.def_two.specs.World.{book_at}
use Rattle.ic_two_world.specs.Views.{openings_of, world_of}
use Rattle.ic_two_world.proofs.Lists.{some-is}
use Rattle.ic_more.proofs.Telling.{one-more_value, value-there}
use Rattle.ic_more.proofs.world_lines.add_values.Goals as goal

pub loop-key-preserved : goal.loop-key-preserved
loop-key-preserved g c =
    let openings = openings_of c.args.world.now in
    let w = world_of c.args.world.now in
    let values = (book_at openings w c.args.book).values in
    let there : c.in-Some.value ≡ get_or values c.loop-key.key 0 =
    some-is c.in-Some.value (get_or values c.loop-key.key 0) (sym c.in-Some.is ∙ c.value.ensures ∙ value-there openings w c.args.book c.args.keys c.loop-key.key c.requires.up c.loop-key-test.true) in
    one-more_value c.loop-key.out.items c.add_number.new.out.items values c.loop-key.key c.in-Some.value (omega (arith, c.requires.up.values, c.loop-key-test.true)) there (c.in_ok-add_number.ensures {u = tt})
    ∙ c.loop-key.invariant
