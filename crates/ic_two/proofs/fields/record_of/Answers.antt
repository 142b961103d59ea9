use Rattle.std.proofs.Common.{arith}
use Rattle.ic_two.proofs.Takes.{read_fits, read_less}
use Rattle.ic_two.proofs.fields.record_of.Goals as goal

pub returns-clause-fit : goal.returns-clause-fit
returns-clause-fit c = read_fits _ c.kind_of.result c.args.bytes.now (λ i. omega (arith, c.type_inv.bytes i)) c.kind_of.ensures

pub returns-clause-less : goal.returns-clause-less
returns-clause-less c = read_less _ c.kind_of.result c.args.bytes.now (λ i. omega (arith, c.type_inv.bytes i)) c.kind_of.ensures
