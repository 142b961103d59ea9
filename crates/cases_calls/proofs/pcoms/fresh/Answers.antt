use Rattle.std.proofs.Common.{refl}
use Rattle.ic_gate.proofs.Blank.{made-blank}
use Rattle.cases_calls.proofs.pcoms.fresh.Goals as goal

pub fresh-requires-clause-blank : goal.fresh-requires-clause-blank
fresh-requires-clause-blank c =
    let e = c.in-Ok.ensures {u = tt} in
    λ told. made-blank e.step (e.disk.tells.1 told) refl
