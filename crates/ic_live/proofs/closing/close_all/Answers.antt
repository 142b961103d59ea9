use Rattle.ic_live.proofs.Closings.{none_left, all_fits, all_step, all_end}
use Rattle.ic_live.proofs.closing.close_all.Goals as goal

pub close_row-requires : goal.close_row-requires
close_row-requires g c = all_fits c.loop-row.outs c.pop.new.self c.in-Some.row c.loop-row.ins c.in-Some.ensures.last c.loop-row.invariant.0 c.loop-row.invariant.1

pub loop-row-preserved : goal.loop-row-preserved
loop-row-preserved g c =
    let s = all_step c.loop-row.outs c.pop.new.self c.in-Some.row c.loop-row.ins c.close_row.new.ins c.in-Some.ensures.last c.loop-row.invariant.0 c.loop-row.invariant.1 c.close_row.ensures in
    (s.0, s.1, λ order. c.loop-row.invariant.2 (s.2 order))

pub returns : goal.returns
returns g c = c.loop-row.invariant.2 (all_end c.loop-row.outs c.loop-row.ins (none_left c.pop.result c.loop-row.outs c.in_default.is c.pop.ensures.some))
