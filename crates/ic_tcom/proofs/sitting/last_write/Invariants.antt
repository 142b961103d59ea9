use Rattle.std.proofs.Common.{◌≡◌, drop}
use Rattle.def_step.specs.Tcom as step
use Rattle.ic_tcom.proofs.sitting.last_write.Given as goal

abbrev pub invariant-loop-written : goal.invariant-loop-written
invariant-loop-written l = step.last_write (drop l.written-index l.writes) l.key l.value ≡ step.last_write l.writes l.fn.key l.fn.before
