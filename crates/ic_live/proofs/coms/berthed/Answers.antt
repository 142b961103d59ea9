use Rattle.std.proofs.Common.{rules, arith, refl}
use Rattle.ic_live.proofs.Peers.{berthed-next, berthed-all}
use Rattle.ic_live.proofs.coms.berthed.Goals as goal

pub loop-i-preserved : goal.loop-i-preserved
loop-i-preserved c = berthed-next c.args.program.now c.loop-i.i (record { 0 = c.loop-i.i }) c.loop-i.coms.items c.add_berthed.new.coms.items (search (rules, arith)) refl c.loop-i.invariant c.in_ok-add_berthed.ensures

pub returns : goal.returns
returns c = berthed-all c.args.program.now c.loop-i.i c.loop-i.coms.items (search (rules, arith)) c.loop-i.invariant
