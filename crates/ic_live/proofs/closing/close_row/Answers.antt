use Rattle.ic_live.proofs.Closings.{none_left, row_step, row_end}
use Rattle.ic_live.proofs.closing.close_row.Goals as goal

pub loop-o-preserved : goal.loop-o-preserved
loop-o-preserved g c =
    let s = row_step c.loop-o.row c.pop.new.self c.in-Some.o c.loop-o.ins c.replace-ends.new.self c.replace.new.self c.replace-ends.result c.new.result c.close_last.new.ends c.len-at.result c.in-Some.ensures.last c.len-at.ensures
    c.replace-ends.ensures.old c.new.ensures c.replace-ends.ensures.new c.replace.ensures.new c.close_last.ensures c.loop-o.invariant.0 in
    (s.0, λ news p. c.loop-o.invariant.1 news (s.1 news p))

pub returns : goal.returns
returns g c = c.loop-o.invariant.1 c.loop-o.ins (row_end c.loop-o.row c.loop-o.ins (none_left c.pop.result c.loop-o.row c.in_default.is c.pop.ensures.some))
