use Rattle.std.proofs.Common.{◌≡◌, ◌++◌, drop}
use Rattle.def_log.specs.Frame.{batches}
use Rattle.def_former.specs.Migrated.{payloads_of}
use Rattle.ic_former.proofs.migrating.migrated_log.Given as goal

abbrev pub invariant-loop-batch : goal.invariant-loop-batch
invariant-loop-batch l =
    l.bytes.items ++ batches (payloads_of (drop l.batch-index l.batch-items)) ≡ l.initial.bytes.items ++ batches (payloads_of l.batch-items)
