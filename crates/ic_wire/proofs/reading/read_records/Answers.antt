use Rattle.ic_wire.proofs.Placing.{all_alone}
use Rattle.ic_wire.proofs.reading.read_records.Goals as goal

pub returns-clause-fit : goal.returns-clause-fit
returns-clause-fit c = rw c.in_ok-records.ensures (all_alone c.in_ok-placed.placed c.in_ok-placed.ensures.fit)
