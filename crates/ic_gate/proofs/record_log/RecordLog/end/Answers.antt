use Rattle.std.proofs.Common.{arith}
use Rattle.ic_gate.proofs.RecordLogs.{length_waiting, end_with}
use Rattle.std.proofs.lemmas.List.{take-append-drop}
use Rattle.std.proofs.Common.{ap, drop}
use Rattle.def_state.specs.Positions.{end_of}
use Rattle.ic_gate.specs.Logs as logs
use Rattle.ic_gate.proofs.record_log.RecordLog.end.Goals as goal

pub returns : goal.returns
returns g c =
    let l = c.args.self.now in
    let all = ap end_of (take-append-drop l.forced l.records) in
    omega (arith, c.end.ensures, l.ended, all, length_waiting (logs.buffered_of l.log) (drop l.forced l.records) l.waiting, end_with l.forced l.records)
