use Rattle.std.proofs.Common.{ap, subst}
use Rattle.ic_lane.proofs.Steps.{merges, totals}
use Rattle.def_live.specs.Lanes.{HasOneContent}
use Rattle.ic_lane.specs.Lanes.{Out}
use Rattle.ic_lane.proofs.pair.close_pair.Goals as goal

pub absorb-requires-clause-rule : goal.absorb-requires-clause-rule
absorb-requires-clause-rule g c = merges _ _ _ _ _ (ap (λ v. v.pushes) c.o.invariant.1) (ap (λ v. v.pops) c.i.invariant.1)

pub returns-clause-same : goal.returns-clause-same
returns-clause-same g c honest = subst (λ (v : Out). HasOneContent v.sent) c.o.view_is (c.o.invariant.2 honest)
