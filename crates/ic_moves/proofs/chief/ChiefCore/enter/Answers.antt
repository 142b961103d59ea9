use Rattle.std.proofs.Common.{subst}
use Rattle.def_two.specs.Records.{IsCounted2, IsCountedMove}
use Rattle.ic_moves.proofs.Openings.{all_push}
use Rattle.ic_moves.proofs.chief.ChiefCore.enter.Goals as goal

pub returns-in-Begun-clause-counted : goal.returns-in-Begun-clause-counted
returns-in-Begun-clause-counted c =
    λ old counted. all_push IsCountedMove c.args.self.now.begun.items c.push_reserved.new.self.items c.in-Begun.m c.push_reserved.ensures.items old (subst IsCounted2 c.in-Begun.is counted)
