-- Where a recovery begins.
use Rattle.std.specs.Prelude.{◌≡◌, ◌+◌, ◌^◌, ◌<◌, ◌≤◌, ⊤, ℕ, true, List, length, drop, Some, None}
use Rattle.ic_base.specs.declared.messages.ComId.{ComId}
use Rattle.ic_base.specs.declared.scenario.Program.{Program}
use Rattle.ic_base.specs.declared.record.Record.{Record}
use Rattle.def_state.specs.Vol.{Vol, numbers_fit}
use Rattle.def_step.specs.Replay.{last_image, behind_checkpoint, passed_over, start_at}
use Rattle.ic_replay.specs.declared.refusals.ReplayRefused.{ReplayRefused}
use Rattle.ic_replay.specs.declared.refusals.ReplayRefused.TheVariants.{Misfit, Memory}

-- the record of this number is the last checkpoint, with this image
pub record IsCheckpoint (records : List Record) (i : ℕ) (image : List ℕ) : Type 0 where
  pub within : i < length records
  pub image_is : last_image records ≡ Some image
  pub short : length image < 2 ^ 32
  pub behind : behind_checkpoint records ≡ drop (i + 1) records

-- the state at the last checkpoint, or the first one, and how many records it passes over
pub record StartsAt (program : Program) (c : ComId) (records : List Record) (first : ℕ) (v : Vol) : Type 0 where
  pub state : start_at program c (last_image records) ≡ Some v
  pub behind : behind_checkpoint records ≡ drop first records
  pub within : first ≤ length records
  pub limits : numbers_fit v ≡ true

-- the last checkpoint's image isn't one of this component
abbrev pub FailsToStart : Program → ComId → List Record → ReplayRefused → Type 0
FailsToStart program c records (Misfit i) = (start_at program c (last_image records) ≡ None) × (passed_over records ≡ i + 1) × (i < length records)
FailsToStart program c records Memory = ⊤
