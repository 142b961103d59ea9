use Rattle.std.proofs.Common.{◌≡◌, drop}
use Rattle.def_step.specs.Tcom as step
use Rattle.ic_tcom.proofs.book.write_all.Given as goal

abbrev pub invariant-loop-key : goal.invariant-loop-key
invariant-loop-key l = step.write_all l.ledger (drop l.key-index l.writes) ≡ step.write_all l.fn.ledger l.writes
