use Rattle.ic_failover.proofs.OrderEvents.{long_orders}
use Rattle.ic_failover.proofs.reading.read_orders.Goals as goal

pub returns-in-Err-TooLong-clause-refused : goal.returns-in-Err-TooLong-clause-refused
returns-in-Err-TooLong-clause-refused g c tells = long_orders c.args.program.now (g.T.Texts.held c.args.texts.now) c.args.name.now (c.read.ensures.too_long tells (cc))
