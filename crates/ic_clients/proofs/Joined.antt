-- Items that were worked off in rounds, and what came behind them, as one run of the events that were done.
use Rattle.std.proofs.Common.{◌≡◌, ◌∙◌, sym, ap, subst, refl, ℕ, Bool, true, List, [], ◌∷◌, ◌++◌, map, append_assoc, Option, Some, None, option_map}
use Rattle.std.proofs.lemmas.Option.{same_Some}
use Rattle.ic_base.specs.declared.events.Event.{Event}
use Rattle.ic_base.specs.declared.events.Stop.{Stop}
use Rattle.ic_base.specs.declared.events.What.{What}
use Rattle.ic_base.specs.declared.messages.ComId.{ComId}
use Rattle.ic_base.specs.declared.scenario.Program.{Program}
use Rattle.def_client.specs.Clients.{Item, Asks, Plain, input_for, clients, turn, turn_of}
use Rattle.def_client.specs.Fronts.{Front, Request, ask}
use Rattle.def_client.specs.declared.asked.Asked.{Asked}
use Rattle.def_client.specs.declared.asked.Asked.TheVariants.{New, Pending, Again, Differs}
use Rattle.def_rounds.specs.Rounds.{Turn, Happens, Answers, Leaps, Round, Ran, Told, Leapt, side_behind, side_after, state_after, transitions_of}
use Rattle.def_run.specs.Executions.{Agenda, Next, Executes, first_of, without_taking, unless_asked, next, agenda_behind, whole_agenda}
use Rattle.def_run.specs.SystemStates.{SystemState, Transition, last_state}
use Rattle.def_step.specs.Settle.{PolicyIntervals, asked_of, policy_for}
use Rattle.def_step.specs.World as definition
use Rattle.ic_clients.specs.Moments.{Moment, Did, moments_of, done_in, event_of, events_done}
use Rattle.ic_clients.specs.Working.{IsRun, FollowItems, begun_by, begun_for, StandsAt}
use Rattle.ic_clients.proofs.Moments.{done-append, done-did}
use Rattle.ic_clients.proofs.Rounds.{after-is, done-is}
use Rattle.ic_run.specs.Running.{Follows}
use Rattle.ic_run.proofs.More.{last-behind}
use Rattle.ic_run.proofs.Nexts.{agenda_with}

-- the event of an item that happens
pub turned : (w : definition.World) (front : Front) (i : Item) (e : Event) → turn w front i ≡ Happens e → event_of i ≡ e
turned w front i e h = by i h
  where
    event-in : Turn Front Asked → Event
    event-in (Happens f) = f
    event-in _ = e

    at : (r : Request) (stop : Option Stop) (a : Asked) → turn_of front r stop a ≡ Happens e → input_for r stop ≡ e
    at r stop New k = ap event-in k
    at r stop Pending k = absurd (cc k)
    at r stop (Again m args) k = absurd (cc k)
    at r stop Differs k = absurd (cc k)

    by : (j : Item) → turn w front j ≡ Happens e → event_of j ≡ e
    by (Asks r stop) k = at r stop (ask front r) k
    by (Plain f) k = ap event-in k

-- what is next, with more of a schedule behind ---------------------------------------------------------

module _ (w : definition.World) (x : PolicyIntervals) where
  -- with more events behind, the same is next, whatever comes behind them
  next-more : (l left more : List Event) (halts : Bool) (last : Option ComId) (e : Event) → next w x (agenda_with l true last) ≡ Some (record { event = e; left = left }) → next w x (agenda_with (l ++ more) halts last) ≡ Some (record { event = e; left = left ++ more })
  next-more l left more halts last e is = by (policy_for w x last) l is
    where
      behind : Next → Option Next
      behind n = Some (record { event = n.event; left = n.left ++ more })

      by : (o : Option What) (l : List Event) → first_of (option_map (without_taking l) o) (unless_asked w (agenda_with l true last)) ≡ Some (record { event = e; left = left })
          → first_of (option_map (without_taking (l ++ more)) o) (unless_asked w (agenda_with (l ++ more) halts last)) ≡ Some (record { event = e; left = left ++ more })
      by (Some what) l f = ap behind (same_Some (without_taking l what) (record { event = e; left = left }) f)
      by None [] f = absurd (cc f)
      by None (y ∷ ys) f = ap behind (same_Some (record { event = y; left = ys }) (record { event = e; left = left }) f)

  -- with nothing next no event is left, and the policy asks nothing
  nothing-left : (l : List Event) (last : Option ComId) → next w x (agenda_with l true last) ≡ None → (l ≡ []) × (policy_for w x last ≡ None)
  nothing-left l last is = by (policy_for w x last) l is
    where
      by : (o : Option What) (l : List Event) → first_of (option_map (without_taking l) o) (unless_asked w (agenda_with l true last)) ≡ None → (l ≡ []) × (o ≡ None)
      by (Some what) l f = absurd (cc f)
      by None [] f = (refl, refl)
      by None (y ∷ ys) f = absurd (cc f)

  -- where the policy asks nothing for a component, the same is next as with none before
  next-fresh : (l : List Event) (halts : Bool) (last : Option ComId) → policy_for w x last ≡ None → next w x (agenda_with l halts last) ≡ next w x (agenda_with l halts None)
  next-fresh l halts last none = ap (λ o. first_of (option_map (without_taking l) o) (unless_asked w (agenda_with l halts last))) none

-- runs in a row ----------------------------------------------------------------------------------------

module _ (tells : Type 0) (program : Program) (print : List ℕ) (x : PolicyIntervals) where
  follows-then : (a : Agenda) (p : SystemState) (vs : List Transition) (b : Agenda) (ws : List Transition) (c : Agenda) → Follows program x a p vs b → Follows program x b (last_state p vs) ws c → Follows program x a p (vs ++ ws) c
  follows-then a p [] b ws c f g = subst (λ z. Follows program x z p ws c) (sym f) g
  follows-then a p (v ∷ vs) b ws c f g = (f.0, f.1, f.2, f.3, follows-then (agenda_behind a f.0 v.trace) v.state vs b ws c f.4 g)

  executes-then : (a : Agenda) (p : SystemState) (vs : List Transition) (b : Agenda) (ws : List Transition) (c : Agenda) → Executes program print x a p vs b → Executes program print x b (last_state p vs) ws c → Executes program print x a p (vs ++ ws) c
  executes-then a p [] b ws c f g = subst (λ z. Executes program print x z p ws c) (sym f) g
  executes-then a p (v ∷ vs) b ws c f g = (f.0, f.1, f.2, executes-then (agenda_behind a f.0 v.trace) v.state vs b ws c f.3 g)

  run-then : (a : Agenda) (p : SystemState) (vs : List Transition) (b : Agenda) (ws : List Transition) (c : Agenda) → IsRun tells program print x a p vs b → IsRun tells program print x b (last_state p vs) ws c → IsRun tells program print x a p (vs ++ ws) c
  run-then a p vs b ws c f g = record { follows = follows-then a p vs b ws c f.follows g.follows; executes = λ t. executes-then a p vs b ws c (f.executes t) (g.executes t) }

  -- with more of a schedule behind
  module _ (more : List Event) (halts : Bool) where
    abbrev then : Agenda → Agenda
    then b = agenda_with (b.left ++ more) halts b.last

    follows-on : (l : List Event) (last : Option ComId) (p : SystemState) (vs : List Transition) (b : Agenda) → Follows program x (agenda_with l true last) p vs b → Follows program x (agenda_with (l ++ more) halts last) p vs (then b)
    follows-on l last p [] b f = ap then f
    follows-on l last p (v ∷ vs) b f = (f.0 ++ more, f.1, next-more p.world x l f.0 more halts last v.trace.event f.2, f.3, follows-on f.0 (asked_of v.trace.event.what v.trace.answer) v.state vs b f.4)

    executes-on : (l : List Event) (last : Option ComId) (p : SystemState) (vs : List Transition) (b : Agenda) → Executes program print x (agenda_with l true last) p vs b → Executes program print x (agenda_with (l ++ more) halts last) p vs (then b)
    executes-on l last p [] b f = ap then f
    executes-on l last p (v ∷ vs) b f = (f.0 ++ more, next-more p.world x l f.0 more halts last v.trace.event f.1, f.2, executes-on f.0 (asked_of v.trace.event.what v.trace.answer) v.state vs b f.3)

    run-on : (l : List Event) (last : Option ComId) (p : SystemState) (vs : List Transition) (b : Agenda) → IsRun tells program print x (agenda_with l true last) p vs b → IsRun tells program print x (agenda_with (l ++ more) halts last) p vs (then b)
    run-on l last p vs b r = record { follows = follows-on l last p vs b r.follows; executes = λ t. executes-on l last p vs b (r.executes t) }

  -- what an agenda comes to has the same form
  same-form : (l : List Event) (halts : Bool) (last : Option ComId) (p : SystemState) (vs : List Transition) (b : Agenda) → Follows program x (agenda_with l halts last) p vs b → agenda_with b.left halts b.last ≡ b
  same-form l halts last p [] b f = subst (λ (c : Agenda). agenda_with c.left halts c.last ≡ c) f refl
  same-form l halts last p (v ∷ vs) b f = same-form f.0 halts (asked_of v.trace.event.what v.trace.answer) v.state vs b f.4

  -- One run from an agenda, behind which the same is next as behind another that these transitions came to.
  pub record IsOneRun (a : Agenda) (p : SystemState) (vs : List Transition) (b : Agenda) : Type 0 where
    pub agenda : Agenda
    pub run : IsRun tells program print x a p vs agenda
    pub same : next (last_state p vs).world x agenda ≡ next (last_state p vs).world x b

  -- where the policy asks nothing more of the component before, it goes on as from the beginning
  fresh : (l : List Event) (halts : Bool) (last : Option ComId) (p : SystemState) (vs : List Transition) (b : Agenda) → policy_for p.world x last ≡ None → IsOneRun (agenda_with l halts None) p vs b → IsOneRun (agenda_with l halts last) p vs b
  fresh l halts last p [] b none r = record {
    agenda = agenda_with l halts last;
    run = record { follows = refl; executes = λ t. refl };
    same = next-fresh p.world x l halts last none ∙ ap (next p.world x) r.run.follows ∙ r.same;
  }
  fresh l halts last p (v ∷ vs) b none r = record {
    agenda = r.agenda;
    run = record {
      follows = (r.run.follows.0, r.run.follows.1, next-fresh p.world x l halts last none ∙ r.run.follows.2, r.run.follows.3, r.run.follows.4);
      executes = λ t. let e = r.run.executes t in (e.0, next-fresh p.world x l halts last none ∙ e.1, e.2, e.3);
    };
    same = r.same;
  }

  -- an event that was done with all that follows it, and a run behind it
  event-then : (e : Event) (l : List Event) (halts : Bool) (p : SystemState) (us : List Transition) (a : Agenda) (vs : List Transition) (b : Agenda) → IsRun tells program print x (whole_agenda (e ∷ []) true) p us a → next (last_state p us).world x a ≡ None
      → IsOneRun (agenda_with l halts None) (last_state p us) vs b → IsOneRun (agenda_with (e ∷ l) halts None) p (us ++ vs) b
  event-then e l halts p us a vs b run nothing r =
      let q : SystemState = last_state p us in
      let ended : (a.left ≡ []) × (policy_for q.world x a.last ≡ None) = nothing-left q.world x a.left a.last (ap (next q.world x) (same-form (e ∷ []) true None p us a run.follows) ∙ nothing) in
      let one : IsRun tells program print x (agenda_with (e ∷ l) halts None) p us (agenda_with l halts a.last) =
      subst (λ (left : List Event). IsRun tells program print x (agenda_with (e ∷ l) halts None) p us (agenda_with (left ++ l) halts a.last)) ended.0 (run-on l halts (e ∷ []) None p us a run) in
      let two : IsOneRun (agenda_with l halts a.last) q vs b = fresh l halts a.last q vs b ended.1 r in
      record {
        agenda = two.agenda;
        run = run-then (agenda_with (e ∷ l) halts None) p us (agenda_with l halts a.last) vs two.agenda one two.run;
        same = subst (λ (s : SystemState). next s.world x two.agenda ≡ next s.world x b) (sym (last-behind p us vs)) two.same;
      }

  -- items that were worked off, and a run behind them
  module _ (more : List Event) (halts : Bool) (vs : List Transition) (b : Agenda) where
    items-then : (front : Front) (p : SystemState) (items : List Item) (rs : List (Round Front Asked)) → FollowItems tells program print x front p items rs → IsRun tells program print x (agenda_with more halts None) (state_after p rs) vs b
        → IsOneRun (agenda_with (events_done items rs ++ more) halts None) p (transitions_of rs ++ vs) b
    items-then front p [] [] f run = record { agenda = b; run = run; same = refl }
    items-then front p [] (r ∷ rs) f run = absurd f
    items-then front p (i ∷ is) [] f run = absurd f
    items-then front p (i ∷ is) (Ran us ∷ rs) f run =
        let l : List Event = events_done is rs ++ more in
        let rest : IsOneRun (agenda_with l halts None) (last_state p us) (transitions_of rs ++ vs) b = items-then (side_behind clients front (Ran us)) (last_state p us) is rs f.1 run in
        subst (λ (ts : List Transition). IsOneRun (agenda_with (event_of i ∷ l) halts None) p ts b) (sym (append_assoc us (transitions_of rs) vs))
        (subst (λ (e : Event). IsOneRun (agenda_with (e ∷ l) halts None) p (us ++ (transitions_of rs ++ vs)) b) (sym (turned p.world front i f.0.0 f.0.2)) (event-then f.0.0 l halts p us f.0.1 (transitions_of rs ++ vs) b f.0.3 f.0.4 rest))
    items-then front p (i ∷ is) (Told a behind ∷ rs) f run = items-then behind p is rs f.1 run
    items-then front p (i ∷ is) (Leapt a behind q ∷ rs) f run = absurd f.0

  module _ (items : List Item) (halts : Bool) (p : SystemState) (moments : List Moment) (left : Agenda) (s : StandsAt tells program print x items halts p moments left) where
    -- all that was done
    pub stands-done : done_in moments ≡ transitions_of s.rounds ++ s.transitions
    stands-done =
        ap done_in s.all ∙ done-append (moments_of s.first s.rounds) (map Did s.transitions) ∙ ap (λ l. done_in (moments_of s.first s.rounds) ++ l) (done-did s.transitions)
        ∙ ap (λ l. l ++ s.transitions) (done-is tells program print x [] p s.first s.rounds s.follows)

    -- and where it led
    pub stands-ends : last_state p (done_in moments) ≡ last_state (state_after p s.rounds) s.transitions
    stands-ends = ap (last_state p) stands-done ∙ last-behind p (transitions_of s.rounds) s.transitions ∙ ap (λ q. last_state q s.transitions) (sym (after-is tells program print x [] p s.first s.rounds s.follows))

    begun-form : whole_agenda s.begun.left s.begun.halts ≡ s.begun
    begun-form = subst (λ (a : Agenda). whole_agenda a.left a.halts ≡ a) s.begins (by s.rest)
      where
        of-turn : (t : Turn Front Asked) → whole_agenda (begun_by t).left (begun_by t).halts ≡ begun_by t
        of-turn (Happens e) = refl
        of-turn (Answers n behind) = refl
        of-turn (Leaps n behind) = refl

        w : definition.World
        w = (state_after p s.rounds).world

        front : Front
        front = side_after clients [] s.rounds

        by : (is : List Item) → whole_agenda (begun_for w front halts is).left (begun_for w front halts is).halts ≡ begun_for w front halts is
        by [] = refl
        by (i ∷ is) = of-turn (turn w front i)

    -- it is one run of the events that were done
    pub stands-run : IsOneRun (whole_agenda (events_done s.first s.rounds ++ s.begun.left) s.begun.halts) p (done_in moments) left
    stands-run =
        subst (λ (ts : List Transition). IsOneRun (whole_agenda (events_done s.first s.rounds ++ s.begun.left) s.begun.halts) p ts left) (sym stands-done)
        (items-then s.begun.left s.begun.halts s.transitions left [] p s.first s.rounds s.follows (subst (λ (a : Agenda). IsRun tells program print x a (state_after p s.rounds) s.transitions left) (sym begun-form) s.onward))
