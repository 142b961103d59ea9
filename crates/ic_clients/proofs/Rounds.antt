-- Items that were worked off in rounds: what they come to where the disks tell their bytes, and one item more.
use Rattle.std.proofs.Common.{◌≡◌, ◌∙◌, sym, ap, subst, refl, ℕ, true, List, [], ◌∷◌, ◌++◌, map, append_assoc}
use Rattle.std.proofs.lemmas.List.{append-nil}
use Rattle.ic_base.specs.declared.scenario.Program.{Program}
use Rattle.def_client.specs.Clients.{Item, clients}
use Rattle.def_client.specs.Fronts.{Front}
use Rattle.def_client.specs.declared.asked.Asked.{Asked}
use Rattle.def_rounds.specs.Rounds.{Round, Ran, Told, Leapt, AreRounds, side_behind, side_after, state_behind, state_after, transitions_of}
use Rattle.def_run.specs.Executions.{Agenda, Executes, whole_agenda}
use Rattle.def_run.specs.SystemStates.{SystemState, Transition, last_state}
use Rattle.def_step.specs.Settle.{PolicyIntervals}
use Rattle.ic_clients.specs.Moments.{Did, moments_in, moments_of, done_in}
use Rattle.ic_clients.specs.Working.{IsRun, FollowsItem, FollowItems}
use Rattle.ic_clients.proofs.Moments.{done-append, done-did}
use Rattle.ic_run.proofs.More.{last-behind}

pub side-more : (front : Front) (rs : List (Round Front Asked)) (r : Round Front Asked) → side_after clients front (rs ++ r ∷ []) ≡ side_behind clients (side_after clients front rs) r
side-more front [] r = refl
side-more front (s ∷ rs) r = side-more (side_behind clients front s) rs r

pub after-more : (p : SystemState) (rs : List (Round Front Asked)) (r : Round Front Asked) → state_after p (rs ++ r ∷ []) ≡ state_behind (state_after p rs) r
after-more p [] r = refl
after-more p (s ∷ rs) r = after-more (state_behind p s) rs r

-- the same, by other words for what the disks tell
module _ (program : Program) (x : PolicyIntervals) {tells told : Type 0} {print own : List ℕ} (on : told → tells) (same : print ≡ own) where
  pub run-told : (a : Agenda) (p : SystemState) (vs : List Transition) (b : Agenda) → IsRun tells program print x a p vs b → IsRun told program own x a p vs b
  run-told a p vs b r = record { follows = r.follows; executes = λ t. subst (λ f. Executes program f x a p vs b) same (r.executes (on t)) }

  pub item-told : (front : Front) (p : SystemState) (i : Item) (r : Round Front Asked) → FollowsItem tells program print x front p i r → FollowsItem told program own x front p i r
  item-told front p i (Ran vs) f = (f.0, f.1, f.2, run-told (whole_agenda (f.0 ∷ []) true) p vs f.1 f.3, f.4)
  item-told front p i (Told a behind) f = f
  item-told front p i (Leapt a behind q) f = absurd f

  pub items-told : (front : Front) (p : SystemState) (items : List Item) (rs : List (Round Front Asked)) → FollowItems tells program print x front p items rs → FollowItems told program own x front p items rs
  items-told front p [] [] f = tt
  items-told front p [] (r ∷ rs) f = absurd f
  items-told front p (i ∷ is) [] f = absurd f
  items-told front p (i ∷ is) (r ∷ rs) f = (item-told front p i r f.0, items-told (side_behind clients front r) (state_behind p r) is rs f.1)

module _ (tells : Type 0) (program : Program) (print : List ℕ) (x : PolicyIntervals) where
  -- where the disks tell their bytes these are rounds
  pub are-rounds : tells → (front : Front) (p : SystemState) (items : List Item) (rs : List (Round Front Asked)) → FollowItems tells program print x front p items rs → AreRounds clients program print x front p items rs
  are-rounds t front p [] [] f = tt
  are-rounds t front p [] (r ∷ rs) f = absurd f
  are-rounds t front p (i ∷ is) [] f = absurd f
  are-rounds t front p (i ∷ is) (Ran vs ∷ rs) f = ((f.0.0, f.0.2, record { agenda = f.0.1; executes = f.0.3.executes t; nothing = f.0.4 }), are-rounds t (side_behind clients front (Ran vs)) (last_state p vs) is rs f.1)
  are-rounds t front p (i ∷ is) (Told a behind ∷ rs) f = (f.0, are-rounds t behind p is rs f.1)
  are-rounds t front p (i ∷ is) (Leapt a behind q ∷ rs) f = absurd f.0

  -- the state behind them, and the transitions among their moments
  pub after-is : (front : Front) (p : SystemState) (items : List Item) (rs : List (Round Front Asked)) → FollowItems tells program print x front p items rs → state_after p rs ≡ last_state p (transitions_of rs)
  after-is front p [] [] f = refl
  after-is front p [] (r ∷ rs) f = absurd f
  after-is front p (i ∷ is) [] f = absurd f
  after-is front p (i ∷ is) (Ran vs ∷ rs) f = after-is (side_behind clients front (Ran vs)) (last_state p vs) is rs f.1 ∙ sym (last-behind p vs (transitions_of rs))
  after-is front p (i ∷ is) (Told a behind ∷ rs) f = after-is behind p is rs f.1
  after-is front p (i ∷ is) (Leapt a behind q ∷ rs) f = absurd f.0

  pub done-is : (front : Front) (p : SystemState) (items : List Item) (rs : List (Round Front Asked)) → FollowItems tells program print x front p items rs → done_in (moments_of items rs) ≡ transitions_of rs
  done-is front p [] [] f = refl
  done-is front p [] (r ∷ rs) f = absurd f
  done-is front p (i ∷ is) [] f = absurd f
  done-is front p (i ∷ is) (Ran vs ∷ rs) f = done-append (map Did vs) (moments_of is rs) ∙ ap (λ l. l ++ done_in (moments_of is rs)) (done-did vs) ∙ ap (λ l. vs ++ l) (done-is (side_behind clients front (Ran vs)) (last_state p vs) is rs f.1)
  done-is front p (i ∷ is) (Told a behind ∷ rs) f = done-is behind p is rs f.1
  done-is front p (i ∷ is) (Leapt a behind q ∷ rs) f = absurd f.0

  module _ (i : Item) (r : Round Front Asked) where
    pub follows-more : (front : Front) (p : SystemState) (items : List Item) (rs : List (Round Front Asked)) → FollowItems tells program print x front p items rs → FollowsItem tells program print x (side_after clients front rs) (state_after p rs) i r → FollowItems tells program print x front p (items ++ i ∷ []) (rs ++ r ∷ [])
    follows-more front p [] [] f g = (g, tt)
    follows-more front p [] (s ∷ rs) f g = absurd f
    follows-more front p (j ∷ is) [] f g = absurd f
    follows-more front p (j ∷ is) (s ∷ rs) f g = (f.0, follows-more (side_behind clients front s) (state_behind p s) is rs f.1 g)

    pub moments-more : (front : Front) (p : SystemState) (items : List Item) (rs : List (Round Front Asked)) → FollowItems tells program print x front p items rs → moments_of (items ++ i ∷ []) (rs ++ r ∷ []) ≡ moments_of items rs ++ moments_in i r
    moments-more front p [] [] f = append-nil (moments_in i r)
    moments-more front p [] (s ∷ rs) f = absurd f
    moments-more front p (j ∷ is) [] f = absurd f
    moments-more front p (j ∷ is) (s ∷ rs) f =
        ap (λ l. moments_in j s ++ l) (moments-more (side_behind clients front s) (state_behind p s) is rs f.1) ∙ sym (append_assoc (moments_in j s) (moments_of is rs) (moments_in i r))
