use Rattle.std.proofs.Common.{refl, inr}
use Rattle.ic_report.proofs.Outputs.{fails_one}
use Rattle.ic_report.proofs.ending.end_done.Goals as goal

pub returns-in-Err : goal.returns-in-Err
returns-in-Err g c =
    let e = c.in-Err.ensures {u = tt} in
    inr (refl, fails_one g.K.Sink c.args.lines.now c.args.out.now c.put.new.self e.tells e.front e.put e.later e.failed)
