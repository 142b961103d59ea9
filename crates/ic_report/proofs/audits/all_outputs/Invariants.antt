use Rattle.std.proofs.Common.{◌≡◌}
use Rattle.std.specs.Prelude.{sum_by, take}
use Rattle.def_run.specs.Audits.{outputs_in}
use Rattle.ic_report.proofs.audits.all_outputs.Given as goal

abbrev pub invariant-loop-com : goal.invariant-loop-com
invariant-loop-com l = l.all ≡ sum_by outputs_in (take l.com-index l.world)
