use Rattle.std.proofs.Common.{rules}
use Rattle.ic_live.proofs.Makings.{grows_more, grows_end}
use Rattle.ic_live.proofs.making.make_row.Goals as goal

pub loop-at-preserved : goal.loop-at-preserved
loop-at-preserved g c =
    let added = c.in_ok-add_end.ensures in
    grows_more c.loop-at.at c.loop-at.row c.push.new.self c.args.ins.now c.loop-at.ins c.add_end.new.ins c.in_ok-o.o c.in_ok-o.i added.0 (search rules) c.loop-at.invariant added.1 added.2 (search rules)
    (search rules, search rules, search rules, search rules)

pub returns : goal.returns
returns g c = grows_end c.loop-at.at c.loop-at.row c.args.ins.now c.loop-at.ins c.loop-at.invariant (search rules)
