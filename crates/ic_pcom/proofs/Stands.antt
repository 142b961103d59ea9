-- Where a component stands behind a replay that waits, or is done.
use Rattle.std.proofs.Common.{◌≡◌, ◌∙◌, sym, ap, refl, ℕ, true, false, List, [], ◌∷◌, Option, Some, None}
use Rattle.std.specs.Prelude.{is_some, option_map}
use Rattle.ic_base.specs.declared.messages.ComId.{ComId}
use Rattle.ic_base.specs.declared.record.Record.{Record}
use Rattle.ic_base.specs.declared.record.Record.TheVariants.{Take, TakeWhole, Input, Value, Outcome, Released, Shown, Checkpoint, Epoch, Decided}
use Rattle.def_state.specs.Vol.{Vol, numbers_fit, regenerated}
use Rattle.def_step.specs.Pcom as step
use Rattle.def_step.specs.Pcom.{Log, needed, standing_at, told, after_tail, tail_packets, just_tail, Fed}
use Rattle.ic_ckpt.specs.Views.{seen}
use Rattle.ic_ckpt.specs.declared.state.State.{State}
use Rattle.ic_replay.specs.Playing.{IsWaiting}
use Rattle.ic_replay.specs.Replaying.{Replaying}
use Rattle.ic_pcom.specs.Carrying.{up}
use Rattle.ic_pcom.specs.Stages.{HasPeers}
use Rattle.ic_pcom.specs.Standing.{IsStageOf, Stands}
use Rattle.ic_pcom.specs.declared.stage.Stage.TheVariants.{Up, Replays}
use Rattle.ic_pcom.proofs.Feeds.{not_done, stands_on}

pub some_mapped : {A B : Type 0} (f : A → B) (o : Option A) (x : Option B) → option_map f o ≡ x → is_some o ≡ true → is_some x ≡ true
some_mapped f None x is some = cc
some_mapped f (Some a) x is some = ap is_some (sym is)

pub of_mapped : {A B : Type 0} (f : A → B) (o : Option A) → is_some (option_map f o) ≡ is_some o
of_mapped f None = refl
of_mapped f (Some a) = refl

pub none_is : {A : Type 0} (o : Option A) → is_some o ≡ false → o ≡ None
none_is None is = refl
none_is (Some a) is = cc

pub none_mapped : {A B : Type 0} (f : A → B) (o : Option A) (x : Option B) → option_map f o ≡ x → is_some o ≡ false → x ≡ None
none_mapped f None x is none = sym is
none_mapped f (Some a) x is none = cc

-- a replay that needs no message is done
pub waits_or_done : (v : Vol) (rest : List Record) → IsWaiting v rest → needed rest ≡ None → rest ≡ []
waits_or_done v [] waits none = refl
waits_or_done v (Take from k stamp ∷ rs) waits none = cc
waits_or_done v (TakeWhole from k stamp handler args ∷ rs) waits none = absurd waits
waits_or_done v (Input stamp handler args ∷ rs) waits none = absurd waits
waits_or_done v (Value n place session value ∷ rs) waits none = absurd waits
waits_or_done v (Outcome stamp n abort ∷ rs) waits none = absurd waits
waits_or_done v (Released to k ∷ rs) waits none = absurd waits
waits_or_done v (Shown m ∷ rs) waits none = absurd waits
waits_or_done v (Checkpoint image ∷ rs) waits none = absurd waits
waits_or_done v (Epoch epoch ∷ rs) waits none = absurd waits
waits_or_done v (Decided stamp c n writes ∷ rs) waits none = absurd waits

module _ (places : List ℕ) (r : Replaying) where
  -- it waits
  pub waits_stage : is_some (needed r.playing.rest) ≡ true → numbers_fit r.playing.vol ≡ true → HasPeers r.playing.vol → IsStageOf places r (Replays places r)
  waits_stage waits limits peers = record {
    rests = sym (not_done r.playing.rest waits);
    left = refl;
    limits = limits;
    peers = peers;
    places_are = λ down. refl;
    before = λ down. refl;
    played = λ down. refl;
    owner = λ down. refl;
  }

  pub waits_stand : is_some (needed r.playing.rest) ≡ true → Stands r (Replays places r)
  waits_stand waits log = sym (stands_on log r.playing.vol r.playing.rest waits)

  -- it is done
  pub done_stage : (s : State) → r.playing.rest ≡ [] → numbers_fit (seen s) ≡ true → HasPeers (seen s) → IsStageOf places r (Up s)
  done_stage s done limits peers = record {
    rests = refl;
    left = sym done;
    limits = limits;
    peers = peers;
    places_are = λ down. cc;
    before = λ down. cc;
    played = λ down. cc;
    owner = λ down. cc;
  }

done_at : (log : Log) (v : Vol) (rest : List Record) → rest ≡ [] → standing_at log v rest ≡ up log (regenerated v)
done_at log v rest done = ap (standing_at log v) done

pub done_stands : (r : Replaying) (s : State) → r.playing.rest ≡ [] → seen s ≡ regenerated r.playing.vol → Stands r (Up s)
done_stands r s done is log = ap (λ (v : Vol). up log v) is ∙ sym (done_at log r.playing.vol r.playing.rest done)

-- a replay that is done tells its receipts
pub fed_done : (c : ComId) (log : Log) (v : Vol) (rest : List Record) → rest ≡ []
    → step.fed c (standing_at log v rest) ≡ told (after_tail (up log (regenerated v))) (tail_packets c false (up log (regenerated v))) (record just_tail { word = Fed })
fed_done c log v rest done = ap (step.fed c) (done_at log v rest done)
