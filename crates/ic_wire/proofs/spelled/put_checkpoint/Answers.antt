use Rattle.std.proofs.Common.{arith}
use Rattle.ic_wire.proofs.Ranges.{all_bytes}
use Rattle.ic_wire.proofs.spelled.put_checkpoint.Goals as goal

pub returns-clause-fit : goal.returns-clause-fit
returns-clause-fit c = all_bytes c.args.image.now (λ i. omega (arith, c.type_inv.image i))
