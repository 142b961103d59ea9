use Rattle.std.proofs.Common.{◌∙◌, sym}
use Rattle.ic_gate.proofs.RecordFiles.{read_is}
use Rattle.ic_pcom.proofs.pcom.Pcom.crash_with_records.Goals as goal

pub returns-clause-log : goal.returns-clause-log
returns-clause-log g c told up = let p = c.args.self in read_is _ _ (p.log.whole told (p.opened up)) (p.log.on_disk told (p.opened up) ∙ sym c.into_parts.ensures.records)
