use Rattle.std.specs.Prelude.{◌++◌}
use Rattle.std.proofs.Common.{ap}
use Rattle.def_syntax.specs.Large.{text_of, inputs_from, large_schedule}
use Rattle.ic_plan.proofs.LargeTexts.{go-on, at-end}
use Rattle.ic_plan.proofs.large.schedule.Goals as goal

pub loop-i-init : goal.loop-i-init
loop-i-init c = ap (λ t. t ++ text_of (inputs_from 200 1 c.args.number)) c.new-text.ensures.items

pub loop-i-preserved : goal.loop-i-preserved
loop-i-preserved c =
    go-on c.loop-i.text.items c.write_input.new.text.items (large_schedule c.args.number) c.loop-i.i c.loop-i.x c.in_ok-x.x
    c.loop-i-test.true c.in_ok-x.ensures.lines c.in_ok-x.ensures.number c.loop-i.invariant

pub returns : goal.returns
returns c = at-end c.loop-i.text.items (large_schedule c.args.number) c.loop-i.i c.loop-i.x c.loop-i-test.false c.loop-i.invariant
