use Rattle.std.proofs.Common.{arith}
use Rattle.ic_ckpt.proofs.Loops.{time-low}
use Rattle.ic_ckpt.proofs.reading.sender.Goals as goal

pub overflow_add-w : goal.overflow_add-w
overflow_add-w c = let low = time-low c.in_ok-from.rest.now c.in_ok-w.w c.in_ok-w.rest.now c.in_ok-w.ensures.read in omega (arith, low)
