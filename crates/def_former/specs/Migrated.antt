-- The log that stands for batches of a log of the former format.
use Rattle.std.specs.Prelude.{ℕ, ◌-◌, List, map, take}
use Rattle.std.specs.List.{filter}
use Rattle.ic_base.specs.declared.limits.TheConstants.{FIRST_GATE, SLOTS}
use Rattle.ic_base.specs.declared.record.Batch.{Batch}
use Rattle.def_log.specs.Frame.{placed, at_rest}
use Rattle.def_log.specs.Log.{ends_with_checkpoint}

-- the payloads of batches
abbrev pub payloads_of : List Batch → List (List ℕ)
payloads_of bs = map (λ b. b.payload) bs

-- the offsets of the gates of the batches whose last record is a Checkpoint
abbrev pub checkpoint_gates : List Batch → List ℕ
checkpoint_gates bs = map (λ b. b.at - 5) (filter ends_with_checkpoint bs)

-- the slots of a log with these payloads: the first ones of its batches whose last record is a Checkpoint
abbrev pub slots_for : List (List ℕ) → List ℕ
slots_for ps = take SLOTS (checkpoint_gates (placed FIRST_GATE ps))

-- the file of a log at rest that has these batches and those slots
abbrev pub migrated : List ℕ → ℕ → List Batch → List ℕ
migrated fingerprint owner bs = at_rest fingerprint owner (slots_for (payloads_of bs)) (payloads_of bs)
