use Rattle.std.proofs.Common.{◌≡◌, drop, take}
use Rattle.std.specs.Prelude.{map}
use Rattle.def_log.specs.Log.{placed_in, ends_with_checkpoint}
use Rattle.ic_former.proofs.Ends.{IsReadUpTo}
use Rattle.ic_former.proofs.checkpoints.checkpoint_ends.Given as goal

abbrev pub invariant-loop-batch : goal.invariant-loop-batch
invariant-loop-batch l = record {
  ends : l.ends.items ≡ map ends_with_checkpoint (take l.batch-index l.batch-items);
  read : IsReadUpTo (placed_in l.batch-items) (placed_in (drop l.batch-index l.batch-items));
}
