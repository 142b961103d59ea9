use Rattle.std.proofs.Common.{arith}
use Rattle.ic_opening.proofs.Writes.{some}
use Rattle.ic_opening.proofs.writing.write_one.Goals as goal

pub write_unopened-requires-clause-some : goal.write_unopened-requires-clause-some
write_unopened-requires-clause-some g c = some c.args.log.now c.requires.log

pub write_unopened-requires-clause-few : goal.write_unopened-requires-clause-few
write_unopened-requires-clause-few g c = omega (arith, c.requires.log.short)
