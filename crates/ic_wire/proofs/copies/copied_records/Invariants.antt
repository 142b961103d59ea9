use Rattle.std.proofs.Common.{◌≡◌, take}
use Rattle.def_log.specs.Log.{records_in}
use Rattle.ic_wire.proofs.copies.copied_records.Given as goal

abbrev pub invariant-loop-stored : goal.invariant-loop-stored
invariant-loop-stored l = l.copies ≡ records_in (take l.stored-index l.placed)
