use Rattle.std.proofs.Common.{◌∙◌}
use Rattle.ic_model.specs.Views.{talk_seen}
use Rattle.ic_model.proofs.Talking.{part_found, said_same, said_other}
use Rattle.ic_model.proofs.stepping.part_on.Goals as goal

pub returns-then-with-tcom-clause-part : goal.returns-then-with-tcom-clause-part
returns-then-with-tcom-clause-part c =
    part_found c.args.program.now c.args.world.now c.args.tcom c.args.«com» c.in-Some-pcom_at.pcom.now c.in-Some-hand.hand c.in-Some.ledger.now c.in_ok-ledger.ledger c.in-Some-2.with c.in-Some-2.talk c.in_ok-with.field-0 c.in-Some.ensures.some c.in-Some-pcom_at.ensures.some c.in-Some-hand.is c.in_ok-ledger.ensures c.in_ok-with.ensures c.in-Some-2.is
    ∙ said_same c.args.tcom c.in-Some-2.with (talk_seen c.in-Some-2.talk) c.if-with-tcom.true

pub returns-else-with-tcom-clause-refused : goal.returns-else-with-tcom-clause-refused
returns-else-with-tcom-clause-refused c =
    part_found c.args.program.now c.args.world.now c.args.tcom c.args.«com» c.in-Some-pcom_at.pcom.now c.in-Some-hand.hand c.in-Some.ledger.now c.in_ok-ledger.ledger c.in-Some-2.with c.in-Some-2.talk c.in_ok-with.field-0 c.in-Some.ensures.some c.in-Some-pcom_at.ensures.some c.in-Some-hand.is c.in_ok-ledger.ensures c.in_ok-with.ensures c.in-Some-2.is
    ∙ said_other c.args.tcom c.in-Some-2.with (talk_seen c.in-Some-2.talk) c.if-with-tcom.false
