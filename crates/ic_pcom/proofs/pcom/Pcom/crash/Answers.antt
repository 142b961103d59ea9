use Rattle.ic_gate.proofs.RecordFiles.{read_is}
use Rattle.ic_pcom.proofs.pcom.Pcom.crash.Goals as goal

pub returns-clause-log : goal.returns-clause-log
returns-clause-log g c told up = let p = c.args.self in read_is _ _ (p.log.whole told (p.opened up)) (p.log.on_disk told (p.opened up))
