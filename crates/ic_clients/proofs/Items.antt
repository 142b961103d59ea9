-- The items of a schedule, and the events of those that were done.
use Rattle.std.proofs.Common.{◌≡◌, ◌∙◌, sym, ap, subst, refl, ℕ, Bool, true, false, List, [], ◌∷◌, ◌++◌, map, ⊎_elim, inl, inr}
use Rattle.std.specs.Prelude.{Contains}
use Rattle.std.specs.List.{AllByRecursion}
use Rattle.std.proofs.lemmas.List.Elements.{Contains-append_left, Contains-append_right}
use Rattle.ic_base.specs.declared.events.Event.{Event}
use Rattle.ic_base.specs.declared.events.What.{What}
use Rattle.ic_base.specs.declared.events.What.TheVariants.{Input, Deliver, Lose, Packet as Numbered, Force, Checkpoint, Resend, Emit, Crash, Recover}
use Rattle.ic_base.specs.declared.scenario.Program.{Program}
use Rattle.def_client.specs.Clients.{Item, item_at, item_of, turn}
use Rattle.def_client.specs.Fronts.{Front}
use Rattle.def_client.specs.Promises.{IsClients}
use Rattle.def_client.specs.declared.asked.Asked.{Asked}
use Rattle.def_rounds.specs.Rounds.{Turn, Happens, Answers, Leaps, Round, Ran, Told, Leapt}
use Rattle.def_run.specs.Executions.{Agenda, Executes, is_input}
use Rattle.def_run.specs.SystemStates.{SystemState, Transition}
use Rattle.def_step.specs.Settle.{PolicyIntervals}
use Rattle.def_step.specs.World as definition
use Rattle.ic_clients.specs.Moments.{event_of, events_done}
use Rattle.ic_clients.specs.Working.{begun_by, begun_for}
use Rattle.ic_clients.specs.Worlds.{items_of}
use Rattle.ic_clients.proofs.Joined.{turned}
use Rattle.ic_plan.specs.Numbering.{HasNumbers, IsNumberedFor}
use Rattle.ic_plan.specs.declared.run_texts.RunTexts.{RunTexts}
use Rattle.ic_plan.specs.declared.verb.Inputs.TheVariants.{Numbered as AreNumbered}
use Rattle.ic_run.specs.Agendas.{MayCome, MayRun}
use Rattle.law_client.specs.Clients.{ItemMayCome, ComeBehind}
use Rattle.law_replay.proofs.Lists.{empty, head-or-tail, in-head, in-tail}
use Rattle.law_run.proofs.HasImages.{all-has}
use Rattle.law_syntax.specs.Events.{IsEvent, HasHandler, HasValues}

each-item : (P : Item → Type 0) (events : List Event) → ((e : Event) → Contains events e → P (item_of e)) → (i : Item) → Contains (map item_of events) i → P i
each-item P [] all i h = empty i h
each-item P (e ∷ es) all i h = ⊎_elim (λ (same : item_of e ≡ i). subst P same (all e (in-head e es))) (λ there. each-item P es (λ f g. all f (in-tail e f es g)) i there) (head-or-tail (item_of e) i (map item_of es) h)

one-client : (e : Event) → HasNumbers e.what → IsClients (item_of e)
one-client e numbered = by e.what refl numbered
  where
    quiet : (what : What) → e.what ≡ what → is_input what ≡ false → is_input e.what ≡ false
    quiet what is none = ap is_input is ∙ none

    by : (what : What) → e.what ≡ what → HasNumbers what → IsClients (item_at what e)
    by (Input c handler args) is n = n
    by (Deliver from to) is n = quiet (Deliver from to) is refl
    by (Lose from to) is n = quiet (Lose from to) is refl
    by (Numbered i) is n = quiet (Numbered i) is refl
    by (Force c) is n = quiet (Force c) is refl
    by (Checkpoint c) is n = quiet (Checkpoint c) is refl
    by (Resend c) is n = quiet (Resend c) is refl
    by (Emit c) is n = quiet (Emit c) is refl
    by (Crash c) is n = quiet (Crash c) is refl
    by (Recover c) is n = quiet (Recover c) is refl

one-comes : (program : Program) (e : Event) → IsEvent program e → ItemMayCome program (item_of e)
one-comes program e f = by e.what refl
  where
    by : (what : What) → e.what ≡ what → ItemMayCome program (item_at what e)
    by (Input c handler args) is = record { handler = subst (HasHandler program) is f.handler; values = subst HasValues is f.values; stop = f.stop }
    by (Deliver from to) is = f
    by (Lose from to) is = f
    by (Numbered i) is = f
    by (Force c) is = f
    by (Checkpoint c) is = f
    by (Resend c) is = f
    by (Emit c) is = f
    by (Crash c) is = f
    by (Recover c) is = f

-- the event of the item of an event is that event
same-event : (e : Event) → e ≡ event_of (item_of e)
same-event e = by e.what refl
  where
    by : (what : What) → e.what ≡ what → e ≡ event_of (item_at what e)
    by (Input c handler args) is = ap (λ (what : What). record { what = what; stop = e.stop }) is
    by (Deliver from to) is = refl
    by (Lose from to) is = refl
    by (Numbered i) is = refl
    by (Force c) is = refl
    by (Checkpoint c) is = refl
    by (Resend c) is = refl
    by (Emit c) is = refl
    by (Crash c) is = refl
    by (Recover c) is = refl

-- what the items of texts are, of which a run is made
module _ (r : RunTexts) (may : MayRun r) where
  pub are-clients : AllByRecursion (IsNumberedFor AreNumbered) r.schedule.events → (i : Item) → Contains (items_of r) i → IsClients i
  are-clients numbers = each-item IsClients r.schedule.events (λ e h. one-client e (all-has (IsNumberedFor AreNumbered) r.schedule.events e numbers h))

  pub items-come : (i : Item) → Contains (items_of r) i → ItemMayCome r.program i
  items-come = each-item (ItemMayCome r.program) r.schedule.events (λ e h. one-comes r.program e (all-has (MayCome r.program) r.schedule.events e may.events h).event)

  pub each-comes : (i : Item) → Contains (items_of r) i → MayCome r.program (event_of i)
  each-comes = each-item (λ i. MayCome r.program (event_of i)) r.schedule.events (λ e h. subst (MayCome r.program) (same-event e) (all-has (MayCome r.program) r.schedule.events e may.events h))

-- of items in a row
pub in-first : (P : Item → Type 0) (items first rest : List Item) → items ≡ first ++ rest → ((i : Item) → Contains items i → P i) → (i : Item) → Contains first i → P i
in-first P items first rest are all i h = all i (subst (λ l. Contains l i) (sym are) (Contains-append_left first rest i h))

pub in-rest : (P : Item → Type 0) (items first rest : List Item) → items ≡ first ++ rest → ((i : Item) → Contains items i → P i) → (i : Item) → Contains rest i → P i
in-rest P items first rest are all i h = all i (subst (λ l. Contains l i) (sym are) (Contains-append_right first rest i h))

-- the events that were done may come
pub done-come : (P : Event → Type 0) (items : List Item) (rs : List (Round Front Asked)) (more : List Event) → ((i : Item) → Contains items i → P (event_of i)) → AllByRecursion P more → AllByRecursion P (events_done items rs ++ more)
done-come P [] rs more all m = m
done-come P (i ∷ is) [] more all m = m
done-come P (i ∷ is) (Ran vs ∷ rs) more all m = (all i (in-head i is), done-come P is rs more (λ j h. all j (in-tail i j is h)) m)
done-come P (i ∷ is) (Told a behind ∷ rs) more all m = done-come P is rs more (λ j h. all j (in-tail i j is h)) m
done-come P (i ∷ is) (Leapt a behind q ∷ rs) more all m = done-come P is rs more (λ j h. all j (in-tail i j is h)) m

module _ (w : definition.World) (front : Front) (halts : Bool) where
  -- and so may what is begun
  pub begun-comes : (P : Event → Type 0) (rest : List Item) → ((i : Item) → Contains rest i → P (event_of i)) → AllByRecursion P (begun_for w front halts rest).left
  begun-comes P [] all = tt
  begun-comes P (i ∷ is) all = by (turn w front i) refl
    where
      by : (t : Turn Front Asked) → turn w front i ≡ t → AllByRecursion P (begun_by t).left
      by (Happens e) is-it = (subst P (turned w front i e is-it) (all i (in-head i is)), tt)
      by (Answers n behind) is-it = tt
      by (Leaps n behind) is-it = tt

  -- what is begun is of an item, or settles
  pub comes-behind : (program : Program) (print : List ℕ) (x : PolicyIntervals) (p : SystemState) (vs : List Transition) (left : Agenda) (rest : List Item) → p.world ≡ w → ((i : Item) → Contains rest i → IsClients i) → ((i : Item) → Contains rest i → ItemMayCome program i)
      → Executes program print x (begun_for w front halts rest) p vs left → ComeBehind program print x front p vs
  comes-behind program print x p vs left [] here own come runs = inr (halts, left, runs)
  comes-behind program print x p vs left (i ∷ is) here own come runs = by (turn w front i) refl runs
    where
      by : (t : Turn Front Asked) → turn w front i ≡ t → Executes program print x (begun_by t) p vs left → ComeBehind program print x front p vs
      by (Happens e) is-it r = inl (i, own i (in-head i is), come i (in-head i is), record { event = e; is = ap (λ z. turn z front i) here ∙ is-it; left = left; executes = r })
      by (Answers n behind) is-it r = inr (true, left, r)
      by (Leaps n behind) is-it r = inr (true, left, r)
