use Rattle.std.proofs.Common.{refl, rules, arith}
use Rattle.ic_threads.proofs.Marks.{first-next, first-all}
use Rattle.ic_threads.proofs.outputs.outputs_of.Goals as goal

pub loop-i-preserved : goal.loop-i-preserved
loop-i-preserved c = first-next c.args.program.now c.args.level c.args.showings.now c.loop-i.i (record { 0 = c.loop-i.i }) c.loop-i.outputs c.add_outputs_of.new.outputs (search (rules, arith)) refl c.loop-i.invariant c.in_ok-add_outputs_of.ensures

pub returns : goal.returns
returns c = first-all c.args.program.now c.args.level c.args.showings.now c.loop-i.i c.loop-i.outputs (search (rules, arith)) c.loop-i.invariant
