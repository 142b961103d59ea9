use Rattle.ic_gate.specs.Creating.{create_calls}
use Rattle.ic_gate.proofs.Blank.{made-blank}
use Rattle.ic_moves.specs.Chiefs.{openings_of}
use Rattle.ic_seat.proofs.Begun.{made_calls}
use Rattle.ic_seat.proofs.opening.made.Goals as goal

pub returns-clause-calls : goal.returns-clause-calls
returns-clause-calls g c =
    made_calls g.D.Disk (create_calls c.args.fingerprint.now c.args.c) c.args.disk c.in_ok-log.log (openings_of c.args.books.now) c.args.c c.first.result (c.in_ok-log.ensures {u = tt}).calls c.first.ensures.step c.first.ensures.refused

pub first-requires-clause-blank : goal.first-requires-clause-blank
first-requires-clause-blank g c told =
    let e = c.in_ok-log.ensures {u = tt} in
    made-blank e.step (e.disk.tells.1 told) c.told-fingerprint
