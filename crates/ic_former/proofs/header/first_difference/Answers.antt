use Rattle.std.proofs.Common.{sym, ◌∙◌, arith}
use Rattle.ic_former.proofs.Differences.{ended}
use Rattle.ic_former.proofs.header.first_difference.Goals as goal

pub returns : goal.returns
returns c = sym (ended c.args.one.now c.args.other.now c.loop-i.i (omega arith)) ∙ c.loop-i.invariant
