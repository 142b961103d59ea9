use Rattle.ic_report.proofs.Outputs.{fails_one}
use Rattle.ic_serve.proofs.answering.answer.Goals as goal

pub returns-in-Err-clause-refused : goal.returns-in-Err-clause-refused
returns-in-Err-clause-refused g c =
    let e = c.in-Err.ensures {u = tt} in
    (c.as_slice.result.now, fails_one g.K.Sink c.as_slice.result.now c.args.out.now c.put.new.self e.tells e.front e.put e.later e.failed)
