-- What becomes of a stage that replays, once it is fed.
use Rattle.std.specs.Prelude.{◌≡◌, ℕ, ◌+◌, ◌<◌, true, false, length, slice_get, Option, Some, None}
use Rattle.ic_base.specs.declared.messages.ComId.{ComId}
use Rattle.ic_base.specs.declared.messages.Msg.{Msg}
use Rattle.ic_base.specs.declared.scenario.Program.{Program}
use Rattle.def_state.specs.Vol.{numbers_fit}
use Rattle.def_step.specs.Pcom as step
use Rattle.def_step.specs.Pcom.{Log, standing_at}
use Rattle.def_step.specs.Replay.{feed, misfit_fed}
use Rattle.def_step.specs.Room.{is_empty}
use Rattle.ic_replay.specs.Playing.{counted_from}
use Rattle.ic_pcom.specs.Stages.{HasPeers, vol_of, rest_of, is_up, places_in, before_of, played_in, owner_of}
use Rattle.ic_pcom.specs.Standing.{staged}
use Rattle.ic_pcom.specs.Views.{told_of}
use Rattle.ic_pcom.specs.declared.stage.Stage.{Stage}
use Rattle.ic_pcom.specs.declared.step.Step.{Step}

-- the message was played, and the records behind it until one waits
pub record IsFed (program : Program) (m : Msg) (old new : Stage) : Type 0 where
  pub down : is_up new ≡ false
  pub feeds : (c : ComId) → owner_of old ≡ c.0 → feed program c (vol_of old) m (rest_of old) ≡ Some (record { vol = vol_of new; rest = rest_of new })
  pub places_are : places_in new ≡ places_in old
  pub owner : owner_of new ≡ owner_of old
  pub before : before_of new + length (rest_of new) ≡ before_of old + length (rest_of old)
  pub played : played_in new + length (rest_of new) ≡ played_in old + length (rest_of old)

-- a misfit is met, of which the number among all records gives this place, and nothing is left to be played
pub record IsMisfit (program : Program) (m : Msg) (old : Stage) (place : ℕ) (new : Stage) : Type 0 where
  pub number : ℕ
  pub none : (c : ComId) → owner_of old ≡ c.0 → feed program c (vol_of old) m (rest_of old) ≡ None
  pub counted : (c : ComId) → owner_of old ≡ c.0 → counted_from (before_of old) (misfit_fed program c (vol_of old) m (rest_of old)) ≡ Some number
  pub within : number < before_of old + length (rest_of old)
  pub place_is : slice_get (places_in old) number ≡ Some place
  pub up : is_up new ≡ true
  pub limits : numbers_fit (vol_of new) ≡ true
  pub peers : HasPeers (vol_of new)

-- why it isn't: a misfit, or want of memory, which changes nothing
abbrev pub FailsToBeFed : Program → Msg → Stage → Stage → Option ℕ → Type 0
FailsToBeFed program m old new None = new ≡ old
FailsToBeFed program m old new (Some place) = IsMisfit program m old place new

-- it is up where nothing is left to be played, and else replays on
pub record Rises (old new : Stage) : Type 0 where
  pub rests : is_up new ≡ is_empty (rest_of new)
  pub left : rest_of new ≡ rest_of old
  pub limits : numbers_fit (vol_of new) ≡ true
  pub peers : HasPeers (vol_of new)
  pub places_are : is_up new ≡ false → places_in new ≡ places_in old
  pub before : is_up new ≡ false → before_of new ≡ before_of old
  pub played : is_up new ≡ false → played_in new ≡ played_in old
  pub owner : is_up new ≡ false → owner_of new ≡ owner_of old

-- the component and what is told are those of the definition
pub record RisesTo (c : ComId) (log : Log) (old new : Stage) (told : Step) : Type 0 where
  pub leads : staged log new ≡ (step.fed c (standing_at log (vol_of old) (rest_of old))).pcom
  pub tells : told ≡ told_of (step.fed c (standing_at log (vol_of old) (rest_of old)))
