use Rattle.std.proofs.lemmas.Result.{on_ok_weaker}
use Rattle.std.specs.Prelude.{◌++◌, ◌+◌, ◌%◌, codes, decimal}
use Rattle.def_syntax.specs.Large.{drawn, lines_at}
use Rattle.ic_plan.proofs.LargeTexts.{wrote}
use Rattle.ic_plan.proofs.large.write_input.Goals as goal

pub returns-clause-lines : goal.returns-clause-lines
returns-clause-lines c =
    on_ok_weaker c.write_draw-3.result
    (λ last. wrote drawn lines_at (codes "input shop order " ++ decimal (1 + c.args.i % 5)) c.args.text.now.items c.write_order.new.text.items c.write_draw.new.text.items c.write_draw-2.new.text.items c.write_draw-3.new.text.items c.args.x c.in_ok-first.first c.in_ok-second.second
    c.in_ok-write_order.ensures c.in_ok-first.ensures.lines c.in_ok-second.ensures.lines last c.in_ok-first.ensures.number c.in_ok-second.ensures.number)
    c.write_draw-3.ensures.lines
