use Rattle.std.proofs.Common.{rules, arith}
use Rattle.ic_tokens.proofs.Numbers.{number_past}
use Rattle.ic_tokens.proofs.scan.magnitude.Goals as goal

pub returns-then-next-from : goal.returns-then-next-from
returns-then-next-from c = number_past _ c.loop-d.value c.loop-d.d-index _ c.loop-d.invariant.0 (omega arith) (search rules) (omega arith)
