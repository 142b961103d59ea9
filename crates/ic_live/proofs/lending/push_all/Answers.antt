use Rattle.std.proofs.Common.{◌∙◌}
use Rattle.ic_live.proofs.Pushes.{pushed-next, may-next, may-fresh, in-place, ends-count}
use Rattle.ic_live.proofs.lending.push_all.Goals as goal

pub push_one-requires-clause-fresh : goal.push_one-requires-clause-fresh
push_one-requires-clause-fresh g c honest =
    may-fresh c.args.c c.args.peers.now c.loop-p.outs.items c.args.puts.now c.p-item.result (in-place c.args.puts.now c.loop-p.p-index c.p-item.result c.loop-p-test.true c.p-item.is) (c.loop-p.invariant.2 honest)

pub loop-p-preserved : goal.loop-p-preserved
loop-p-preserved g c = (
  ends-count c.args.c c.args.peers.now c.loop-p.outs.items c.push_one.new.outs.items _ c.push_one.ensures ∙ c.loop-p.invariant.0,
  pushed-next c.args.c c.args.peers.now c.args.outs.now.items c.loop-p.outs.items c.push_one.new.outs.items c.args.puts.now c.loop-p.p-index c.p-item.result c.loop-p-test.true c.p-item.is c.loop-p.invariant.1 c.push_one.ensures,
  λ honest. may-next c.args.c c.args.peers.now c.loop-p.outs.items c.push_one.new.outs.items c.args.puts.now c.p-item.result (in-place c.args.puts.now c.loop-p.p-index c.p-item.result c.loop-p-test.true c.p-item.is) c.push_one.ensures (c.loop-p.invariant.2 honest),
)
