use Rattle.ic_failover.proofs.OrderEvents.{orders_may}
use Rattle.ic_failover.proofs.reading.orders_in.Goals as goal

pub returns-in-Ok-clause-orders : goal.returns-in-Ok-clause-orders
returns-in-Ok-clause-orders c = orders_may c.args.program.now c.args.bytes.now c.in-Ok.orders.orders c.in-Ok.orders.halts c.in-Ok.ensures.accepted c.in-Ok.ensures.allowed
