use Rattle.def_log.specs.Spelling.{session, value}
use Rattle.ic_wire.proofs.Ranges.{two}
use Rattle.ic_wire.proofs.parts.put_session.Goals as goal

pub returns-clause-spelled : goal.returns-clause-spelled
returns-clause-spelled c = two c.args.out.now.items (session c.args.given) (value c.args.x.now) c.put_pair.new.out.items c.put_value.new.out.items c.in_ok-put_pair.ensures c.in_ok-put_value.ensures.spelled
