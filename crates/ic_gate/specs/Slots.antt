-- Whether a log's open slots name batches, and whether these end with a Checkpoint.
use Rattle.std.specs.Prelude.{ℕ, ◌+◌, ◌==◌, Bool, List, drop, slice_get, option_to_list, Option, Some, Result, Ok, Err}
use Rattle.std.specs.List.{list_any}
use Rattle.ic_base.specs.declared.record.Batch.{Batch}
use Rattle.def_log.specs.Directory.{slot_place, first_bad_slot}
use Rattle.def_log.specs.Frame.{any_batch}
use Rattle.def_log.specs.Log.{ends_with_checkpoint}

-- the first bad slot: the one at which it was come to, or one that the batches left don't name, behind so many that were named
abbrev pub bad_behind : List ℕ → Result ℕ ℕ → List Batch → Option ℕ
bad_behind slots (Err place) bs = Some place
bad_behind slots (Ok named) bs = first_bad_slot ends_with_checkpoint (slot_place named) (drop named slots) bs

-- the slot of this number names a batch whose payload stands here
abbrev pub names : List ℕ → ℕ → ℕ → Bool
names slots n at = list_any (λ offset. at == offset + 5) (option_to_list (slice_get slots n))

-- the first slot that the batches left don't name, behind so many that were named
abbrev pub unnamed_behind : List ℕ → ℕ → List Batch → Option ℕ
unnamed_behind slots named bs = first_bad_slot any_batch (slot_place named) (drop named slots) bs
