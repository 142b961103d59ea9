use Rattle.std.proofs.Common.{◌∙◌, ap, ◌+◌, ◌++◌, ◌∷◌, codes, decimal}
use Rattle.def_report.specs.Words.{line}
use Rattle.def_two.specs.Printed.{ruling_words}
use Rattle.ic_script.specs.Reading.{the_script}
use Rattle.ic_two_world.specs.Views.{world_of}
use Rattle.ic_more.proofs.Telling.{one-more_move}
use Rattle.ic_more.proofs.world_lines.add_moves.Goals as goal

pub loop-i-preserved : goal.loop-i-preserved
loop-i-preserved g c =
    let s = the_script c.args.script.now in
    let out = c.loop-i.out.items in
    one-more_move s (world_of c.args.world.now) c.args.out.now.items out c.add_move.new.out.items c.loop-i.i c.loop-i.invariant
    (c.in_ok-add_move.ensures {u = tt} ∙ ap (λ r. out ++ line (codes "move" ∷ decimal (c.loop-i.i + 1) ∷ ruling_words s r)) c.ruling.ensures)
