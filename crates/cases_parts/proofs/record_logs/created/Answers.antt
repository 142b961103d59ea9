use Rattle.std.proofs.Common.{refl}
use Rattle.ic_gate.proofs.Blank.{made-walk}
use Rattle.cases_parts.proofs.record_logs.created.Goals as goal

pub new-requires-in-Ok-2-clause-read : goal.new-requires-in-Ok-2-clause-read
new-requires-in-Ok-2-clause-read c =
    let e = c.in-Ok.ensures {u = tt} in
    λ told. made-walk e.step (e.disk.tells.1 told) refl c.new-in-Ok.result c.new-in-Ok.ensures
