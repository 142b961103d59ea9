-- A replay that is begun, and fed with the messages that it waits for.
use Rattle.std.specs.Prelude.{◌≡◌, ◌+◌, ◌<◌, ◌≤◌, ⊤, ℕ, true, List, [], ◌∷◌, length, drop, slice_get, All, Option, Some, None}
use Rattle.ic_base.specs.declared.messages.ComId.{ComId}
use Rattle.ic_base.specs.declared.messages.Msg.{Msg}
use Rattle.ic_base.specs.declared.scenario.Program.{Program}
use Rattle.ic_base.specs.declared.record.Record.{Record}
use Rattle.def_log.specs.Spelling.{Fits}
use Rattle.def_state.specs.Names.{Identity}
use Rattle.def_state.specs.Vol.{Vol, numbers_fit}
use Rattle.def_step.specs.Replay.{Playing, recovered, misfit_of, feed, misfit_fed, behind_checkpoint, stamp_waiting}
use Rattle.ic_replay.specs.declared.refusals.ReplayRefused.{ReplayRefused}
use Rattle.ic_replay.specs.declared.refusals.ReplayRefused.TheVariants.{Misfit, Memory}
use Rattle.ic_replay.specs.Playing.{IsWaiting, counted_from}

-- a replay of a component: all records of its log, its state with the records that are still to be played, how many are before these, and how many of them were played
pub record Replaying : Type 0 where
  pub owner : ComId
  pub records : List Record
  pub playing : Playing
  pub before : ℕ
  pub played : ℕ

-- how the state, the place in the records and the record there go together
pub record IsAt (records : List Record) (first next : ℕ) (stored : Option Record) (v : Vol) : Type 0 where
  pub fields : All Fits records
  pub behind : first ≤ next
  pub within : next ≤ length records
  pub waiting : IsWaiting v (drop next records)
  pub limits : numbers_fit v ≡ true
  pub stored_is : slice_get records next ≡ stored

-- the records behind the last checkpoint are played until one waits
pub record Begins (program : Program) (c : ComId) (records : List Record) (r : Replaying) : Type 0 where
  pub owner : r.owner ≡ c
  pub whole : r.records ≡ records
  pub playing : recovered program c records ≡ Some r.playing
  pub before : r.before + length r.playing.rest ≡ length records
  pub played : r.played + length r.playing.rest ≡ length (behind_checkpoint records)

-- why there is no replay
abbrev pub FailsToBegin : Program → ComId → List Record → ReplayRefused → Type 0
FailsToBegin program c records (Misfit i) = (recovered program c records ≡ None) × (misfit_of program c records ≡ Some i) × (i < length records)
FailsToBegin program c records Memory = ⊤

-- the waiting record is played with its message, and the others until one waits again
pub record Feeds (program : Program) (m : Msg) (old new : Replaying) : Type 0 where
  pub owner : new.owner ≡ old.owner
  pub whole : new.records ≡ old.records
  pub playing : feed program old.owner old.playing.vol m old.playing.rest ≡ Some new.playing
  pub before : new.before + length new.playing.rest ≡ old.before + length old.playing.rest
  pub played : new.played + length new.playing.rest ≡ old.played + length old.playing.rest

-- why it isn't; the place of the misfit is counted from the first record of all
abbrev pub FailsToFeed : Program → Msg → Replaying → Replaying → ReplayRefused → Type 0
FailsToFeed program m old new (Misfit i) =
    (feed program old.owner old.playing.vol m old.playing.rest ≡ None) × (counted_from old.before (misfit_fed program old.owner old.playing.vol m old.playing.rest) ≡ Some i) × (i < old.before + length old.playing.rest)
FailsToFeed program m old new Memory = new ≡ old

-- the identity of a message at its receiver
abbrev pub identity_of : ComId × ℕ → Identity
identity_of x = record { peer = x.0; k = x.1 }

-- the stamp of the record that waits
abbrev pub stamp_of : List Record → Option ℕ
stamp_of [] = None
stamp_of (r ∷ rs) = stamp_waiting r
