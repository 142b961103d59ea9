-- What a stage of a Pcom holds.
use Rattle.std.specs.Prelude.{◌≡◌, ℕ, ◌+◌, Bool, true, false, List, [], length}
use Rattle.ic_base.specs.declared.record.Record.{Record}
use Rattle.def_state.specs.Vol.{Vol}
use Rattle.def_step.specs.Pcom.{Log}
use Rattle.def_step.specs.Replay.{behind_checkpoint}
use Rattle.ic_ckpt.specs.Views.{seen}
use Rattle.ic_in.specs.Senders.{are_components}
use Rattle.ic_pcom.specs.declared.stage.Stage.{Stage}
use Rattle.ic_pcom.specs.declared.stage.Stage.TheVariants.{Up, Replays}

-- the volatile state
abbrev pub vol_of : Stage → Vol
vol_of (Up s) = seen s
vol_of (Replays places r) = r.playing.vol

-- the senders of the messages that it took are components that a scenario may have
abbrev pub HasPeers : Vol → Type 0
HasPeers v = are_components v.inbox.taken ≡ true

-- the records that are still to be played
abbrev pub rest_of : Stage → List Record
rest_of (Up s) = []
rest_of (Replays places r) = r.playing.rest

abbrev pub is_up : Stage → Bool
is_up (Up s) = true
is_up (Replays places r) = false

-- where the records that are replayed stand in the file
abbrev pub places_in : Stage → List ℕ
places_in (Up s) = []
places_in (Replays places r) = places

-- how many of them are before those that are still to be played
abbrev pub before_of : Stage → ℕ
before_of (Up s) = 0
before_of (Replays places r) = r.before

-- how many records the replay has played
abbrev pub played_in : Stage → ℕ
played_in (Up s) = 0
played_in (Replays places r) = r.played

-- the number of the component whose records are replayed
abbrev pub owner_of : Stage → ℕ
owner_of (Up s) = 0
owner_of (Replays places r) = r.owner.0

-- the replay is that of this component, over records that all stand in the file
abbrev pub AreReplayed : ℕ → Log → Stage → Type 0
AreReplayed c log stage = (owner_of stage ≡ c) × (length log.buffered ≡ 0) × (before_of stage + length (rest_of stage) ≡ length log.forced)

-- so many were played of those behind the last checkpoint, and each record has a place
abbrev pub ArePlayed : ℕ → Log → Stage → Type 0
ArePlayed n log stage = (played_in stage ≡ n) × (n + length (rest_of stage) ≡ length (behind_checkpoint log.forced)) × (length (places_in stage) ≡ length log.forced)
