-- Where a component stands behind what was played of its log.
use Rattle.std.specs.Prelude.{◌≡◌, ℕ, true, false, List}
use Rattle.ic_base.specs.declared.messages.ComId.{ComId}
use Rattle.def_state.specs.Positions.{end_of}
use Rattle.def_state.specs.Vol.{numbers_fit}
use Rattle.def_step.specs.Pcom as step
use Rattle.def_step.specs.Pcom.{Log, stands_at}
use Rattle.def_step.specs.Room.{is_empty}
use Rattle.ic_replay.specs.Replaying.{Replaying}
use Rattle.ic_pcom.specs.Stages.{HasPeers, vol_of, rest_of, is_up, places_in, before_of, played_in, owner_of}
use Rattle.ic_pcom.specs.declared.stage.Stage.{Stage}

-- a component with this stage, over a log
abbrev pub staged : Log → Stage → step.Pcom
staged log stage = record { log = log; vol = vol_of stage; rest = rest_of stage }

-- it is up where the replay has nothing left to play, and else replays on, with these places
pub record IsStageOf (places : List ℕ) (r : Replaying) (stage : Stage) : Type 0 where
  pub rests : is_up stage ≡ is_empty (rest_of stage)
  pub left : rest_of stage ≡ r.playing.rest
  pub limits : numbers_fit (vol_of stage) ≡ true
  pub peers : HasPeers (vol_of stage)
  pub places_are : is_up stage ≡ false → places_in stage ≡ places
  pub before : is_up stage ≡ false → before_of stage ≡ r.before
  pub played : is_up stage ≡ false → played_in stage ≡ r.played
  pub owner : is_up stage ≡ false → owner_of stage ≡ r.owner.0

-- the component that the replay has come to
abbrev pub Stands : Replaying → Stage → Type 0
Stands r stage = (log : Log) → staged log stage ≡ stands_at log r.playing

-- the same once it was fed, over a log that is forced up to here
abbrev pub IsFedTo : ComId → ℕ → Replaying → Stage → Type 0
IsFedTo c forced r stage = (log : Log) → end_of log.forced ≡ forced → staged log stage ≡ (step.fed c (stands_at log r.playing)).pcom
