-- A stage that is fed.
use Rattle.std.proofs.Common.{◌≡◌, ◌∙◌, sym, ap, refl, subst, ℕ, ◌+◌, ◌<◌, ◌≤◌, true, List, length, get_or, arith, Some}
use Rattle.std.proofs.lemmas.Option.{slice_get-get_or}
use Rattle.ic_base.specs.declared.messages.ComId.{ComId}
use Rattle.ic_base.specs.declared.messages.Msg.{Msg}
use Rattle.ic_base.specs.declared.scenario.Program.{Program}
use Rattle.def_state.specs.Vol.{numbers_fit}
use Rattle.def_step.specs.Pcom as step
use Rattle.def_step.specs.Pcom.{Log, stands_at}
use Rattle.def_step.specs.Replay.{feed, misfit_fed}
use Rattle.ic_ckpt.specs.Views.{seen}
use Rattle.ic_ckpt.specs.declared.state.State.{State}
use Rattle.ic_replay.specs.Playing.{counted_from}
use Rattle.ic_replay.specs.Replaying.{Replaying, Feeds, FailsToFeed}
use Rattle.ic_replay.specs.declared.refusals.ReplayRefused.{ReplayRefused}
use Rattle.ic_replay.specs.declared.refusals.ReplayRefused.TheVariants.{Misfit, Memory}
use Rattle.ic_pcom.specs.Restaging.{IsFed, IsMisfit, Rises, RisesTo}
use Rattle.ic_pcom.specs.Stages.{HasPeers}
use Rattle.ic_pcom.specs.Standing.{staged, IsStageOf}
use Rattle.ic_pcom.specs.Views.{told_of}
use Rattle.ic_pcom.specs.declared.stage.Stage.{Stage}
use Rattle.ic_pcom.specs.declared.stage.Stage.TheVariants.{Up, Replays}
use Rattle.ic_pcom.specs.declared.step.Step.{Step}

same_owner : (c d : ComId) → c.0 ≡ d.0 → d ≡ c
same_owner c d is = ap (λ n. record { 0 = n }) (sym is)

pub is_fed : (program : Program) (m : Msg) (old : Stage) (places : List ℕ) (r new : Replaying) → old ≡ Replays places r → Feeds program m r new → IsFed program m old (Replays places new)
is_fed program m old places r new is f =
    let P : Stage → Type 0 = λ s. IsFed program m s (Replays places new) in
    subst P (sym is) (record {
      down = refl;
      feeds = λ c own. ap (λ (o : ComId). feed program o r.playing.vol m r.playing.rest) (same_owner r.owner c own) ∙ f.playing;
      places_are = refl;
      owner = ap (λ (o : ComId). o.0) f.owner;
      before = f.before;
      played = f.played;
    })

misfit_at : (program : Program) (m : Msg) (places : List ℕ) (r new : Replaying) (why : ReplayRefused) (i : ℕ) (s : State) → r.before + length r.playing.rest ≤ length places → why ≡ Misfit i → FailsToFeed program m r new why
    → numbers_fit (seen s) ≡ true → HasPeers (seen s) → IsMisfit program m (Replays places r) (get_or places i 0) (Up s)
misfit_at program m places r new Memory i s many is fails limits peers = absurd (cc)
misfit_at program m places r new (Misfit j) i s many is fails limits peers =
    let same : j ≡ i = cc in
    let within : i < r.before + length r.playing.rest = omega (arith, same, fails.2) in
    record {
      number = i;
      none = λ c own. ap (λ (o : ComId). feed program o r.playing.vol m r.playing.rest) (same_owner r.owner c own) ∙ fails.0;
      counted = λ c own. ap (λ (o : ComId). counted_from r.before (misfit_fed program o r.playing.vol m r.playing.rest)) (same_owner r.owner c own) ∙ fails.1 ∙ ap (λ (n : ℕ). Some n) same;
      within = within;
      place_is = slice_get-get_or places i 0 (omega (arith, within, many));
      up = refl;
      limits = limits;
      peers = peers;
    }

pub is_misfit : (program : Program) (m : Msg) (old : Stage) (places read : List ℕ) (r new : Replaying) (why : ReplayRefused) (i : ℕ) (s : State) → old ≡ Replays places r → read ≡ places → r.before + length r.playing.rest ≤ length places
    → why ≡ Misfit i → FailsToFeed program m r new why → numbers_fit (seen s) ≡ true → HasPeers (seen s) → IsMisfit program m old (get_or read i 0) (Up s)
is_misfit program m old places read r new why i s is reads many of fails limits peers =
    let P : Stage → Type 0 = λ x. IsMisfit program m x (get_or read i 0) (Up s) in
    let Q : List ℕ → Type 0 = λ l. IsMisfit program m (Replays places r) (get_or l i 0) (Up s) in
    subst P (sym is) (subst Q (sym reads) (misfit_at program m places r new why i s many of fails limits peers))

-- the stage that a finished or waiting replay gives
pub rises_as : (old : Stage) (places : List ℕ) (r : Replaying) (new : Stage) → old ≡ Replays places r → IsStageOf places r new → Rises old new
rises_as old places r new is s =
    let P : Stage → Type 0 = λ x. Rises x new in
    subst P (sym is) (record { rests = s.rests; left = s.left; limits = s.limits; peers = s.peers; places_are = s.places_are; before = s.before; played = s.played; owner = s.owner })

pub rises_to_as : (c : ComId) (log : Log) (old : Stage) (places : List ℕ) (r : Replaying) (new : Stage) (told : Step) → old ≡ Replays places r
    → staged log new ≡ (step.fed c (stands_at log r.playing)).pcom → told ≡ told_of (step.fed c (stands_at log r.playing)) → RisesTo c log old new told
rises_to_as c log old places r new told is leads tells =
    let P : Stage → Type 0 = λ x. RisesTo c log x new told in
    subst P (sym is) (record { leads = leads; tells = tells })
