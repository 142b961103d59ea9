-- Along a run with numbered clients no request stands twice.
use Rattle.std.proofs.Common.{◌≡◌, ◌∙◌, refl, ap, sym, subst, Bool, true, false, cond, ◌&&◌, List, [], ◌∷◌, ◌++◌, ℕ, Option, Some, None, option_to_list, not, inl, inr}
use Rattle.std.specs.Prelude.{filter_map, fold, Contains}
use Rattle.std.specs.List.{cons_option}
use Rattle.std.proofs.lemmas.List.{append-nil, append_assoc}
use Rattle.std.proofs.lemmas.List.Elements.{filter_map-append}
use Rattle.ic_base.specs.declared.messages.ComId.{ComId}
use Rattle.ic_base.specs.declared.events.Event.{Event}
use Rattle.ic_base.specs.declared.events.What.{What}
use Rattle.ic_base.specs.declared.events.What.TheVariants.{Input}
use Rattle.ic_base.specs.declared.events.Stop.{Stop}
use Rattle.ic_base.specs.declared.events.Trace.{Trace}
use Rattle.ic_base.specs.declared.scenario.Program.{Program}
use Rattle.def_step.specs.Settle.{PolicyIntervals}
use Rattle.def_facts.specs.Logs.{Logs, log_at}
use Rattle.def_facts.specs.World.{forced_logs}
use Rattle.def_run.specs.CrashFree.{input_in, is_received, received_by}
use Rattle.def_run.specs.Executions.{is_input, whole_agenda}
use Rattle.def_step.specs.World.{World}
use Rattle.def_rounds.specs.Rounds.{Happens, Round, Ran, Told, Leapt, Turn, AreRounds, IsRound, IsUnderWay, agenda_for, side_behind, side_after, state_behind, state_after, transitions_in, transitions_of, Answers}
use Rattle.def_run.specs.SystemStates.{SystemState, Transition, last_state, traces_of}
use Rattle.law_run.proofs.Gaining.{executions_gain_inputs}
use Rattle.law_replay.proofs.Lists.{same-com, in-head, in-tail, empty}
use Rattle.law_syntax.specs.Events.{IsEvent}
use Rattle.def_client.specs.declared.asked.Asked.{Asked}
use Rattle.def_client.specs.declared.asked.Asked.TheVariants.{New, Pending, Again, Differs}
use Rattle.def_client.specs.Fronts.{Request, Given, Front, is_numbered, ask, saw}
use Rattle.def_client.specs.Clients.{Item, Plain, input_for, turn, turn_of, clients, Asks}
use Rattle.def_client.specs.Promises.{AreApart, EachOnce, IsClients}
use Rattle.def_client.specs.Rebuilding.{requests_of}
use Rattle.law_client.specs.Rounds.{Stands, MayHappen, LeapsKeep}
use Rattle.law_run.specs.ProgramBytes.{IsFit}
use Rattle.law_client.specs.Clients.{ItemMayCome, ComeBehind, RequestsStandOnce, OnceInHistory}
use Rattle.law_client.proofs.Along.{one-comes, all-stand, all-gain}
use Rattle.law_client.proofs.Quiet.{AreQuiet, IsOne, one-event, rest-quiet, quiet-receives}
use Rattle.law_client.proofs.Fronts.{quiet-keeps, input-keeps, given, has_one, new-has-none, apart-push}
use Rattle.ic_base.specs.Programs.{same_com, is_a_pcom}

-- what a new request, or an event that is no input, comes to
pub record IsNew (front : Front) (r : Request) (stop : Option Stop) (e : Event) : Type 0 where
  pub new : ask front r ≡ New
  pub is : e ≡ input_for r stop

is-new : (front : Front) (r : Request) (stop : Option Stop) (e : Event) → turn_of front r stop (ask front r) ≡ Happens e → IsNew front r stop e
is-new front r stop e h = at (ask front r) refl h
  where
    event-in : Turn Front Asked → Event
    event-in (Happens e) = e
    event-in (Answers n b) = e
    event-in _ = e

    at : (a : Asked) → ask front r ≡ a → turn_of front r stop a ≡ Happens e → IsNew front r stop e
    at New q k = record { new = q; is = sym (ap event-in k) }
    at Pending q k = absurd (cc k)
    at (Again m args) q k = absurd (cc k)
    at Differs q k = absurd (cc k)

-- a front stands for the inputs of a component: it has them, and they are apart
pub record Fits (c : ComId) (before : List Given) (front : Front) : Type 0 where
  pub has : requests_of c front ≡ before
  pub apart : AreApart before

-- the event of a new request
pub received-here : (c : ComId) (t : Trace) (r : Request) → t.event.what ≡ Input r.who r.handler r.args → received_by c t ≡ cond (same_com c r.who && is_received t.answer) (Some (given r.handler r.args)) None
received-here c t r is = ap by is
  where
    by : What → Option Given
    by what = elim what [ Input d handler args ↦ cond (same_com c d && is_received t.answer) (Some (given handler args)) None | _ ↦ None ]

still-apart : (c d : ComId) (x : Given) (front : Front) (before : List Given) (received : Bool) → has_one x.1 (requests_of d front) ≡ false → Fits c before front → AreApart (before ++ option_to_list (cond (same_com c d && received) (Some x) None))
still-apart c d x front before received none f = at (same_com c d) received refl
  where
    as-is : AreApart (before ++ [])
    as-is = subst AreApart (sym (append-nil before)) f.apart

    at : (b z : Bool) → same_com c d ≡ b → AreApart (before ++ option_to_list (cond (b && z) (Some x) None))
    at true true e = apart-push before x f.apart (ap (has_one x.1) (sym f.has) ∙ ap (λ u. has_one x.1 (requests_of u front)) (same-com c d e) ∙ none)
    at true false e = as-is
    at false true e = as-is
    at false false e = as-is

pub cons-list : (o : Option Given) (xs : List Given) → xs ≡ [] → cons_option o xs ≡ option_to_list o
cons-list None xs e = e
cons-list (Some x) xs e = ap (λ l. x ∷ l) e

new-fits : (c : ComId) (before : List Given) (front : Front) (r : Request) (stop : Option Stop) (ts : List Trace) → is_numbered r.args ≡ true → ask front r ≡ New → IsOne (input_for r stop) ts → Fits c before front → Fits c (before ++ filter_map (received_by c) ts) (fold saw front ts)
new-fits c before front r stop [] numbered new one f = record { has = f.has ∙ sym (append-nil before); apart = subst AreApart (sym (append-nil before)) f.apart }
new-fits c before front r stop (t ∷ ts) numbered new one f = record {
  has = quiet-keeps c ts (saw front t) one.1 ∙ input-keeps c r.who r.handler r.args t front what numbered ∙ ap (λ l. l ++ option_to_list got) f.has ∙ sym added;
  apart = subst AreApart (sym added) (still-apart c r.who (given r.handler r.args) front before (is_received t.answer) (new-has-none front r new) f);
}
  where
    what : t.event.what ≡ Input r.who r.handler r.args
    what = ap (λ (e : Event). e.what) one.0

    got : Option Given
    got = cond (same_com c r.who && is_received t.answer) (Some (given r.handler r.args)) None

    added : before ++ filter_map (received_by c) (t ∷ ts) ≡ before ++ option_to_list got
    added = ap (λ l. before ++ l) (cons-list (received_by c t) (filter_map (received_by c) ts) (quiet-receives c ts one.1) ∙ ap option_to_list (received-here c t r what))

-- an event that is no input, and what is told with no step
quiet-fits : (c : ComId) (before : List Given) (front : Front) (ts : List Trace) → AreQuiet ts → Fits c before front → Fits c (before ++ filter_map (received_by c) ts) (fold saw front ts)
quiet-fits c before front ts quiet f =
    let same : before ≡ before ++ filter_map (received_by c) ts = sym (append-nil before) ∙ ap (λ l. before ++ l) (sym (quiet-receives c ts quiet)) in
    record { has = quiet-keeps c ts front quiet ∙ f.has ∙ same; apart = subst AreApart same f.apart }

one-quiet : (e : Event) (ts : List Trace) → is_input e.what ≡ false → IsOne e ts → AreQuiet ts
one-quiet e [] none one = tt
one-quiet e (t ∷ ts) none one = (ap (λ (f : Event). is_input f.what) one.0 ∙ none, one.1)

happening : (a b : Event) → ◌≡◌ {A = Turn Front Asked} (Happens a) (Happens b) → b ≡ a
happening a b e = sym (ap event-in e)
  where
    event-in : Turn Front Asked → Event
    event-in (Happens e) = e
    event-in _ = a

-- what is told of a request leaves the front as it is
pub told-same : (front behind : Front) (r : Request) (stop : Option Stop) (note : Asked) → turn_of front r stop (ask front r) ≡ Answers note behind → behind ≡ front
told-same front behind r stop note h = at (ask front r) h
  where
    kept : Turn Front Asked → Front
    kept (Answers n b) = b
    kept _ = front

    at : (a : Asked) → turn_of front r stop a ≡ Answers note behind → behind ≡ front
    at New k = absurd (cc k)
    at Pending k = sym (ap kept k)
    at (Again m args) k = sym (ap kept k)
    at Differs k = sym (ap kept k)

module _ (program : Program) (fingerprint : List ℕ) (x : PolicyIntervals) (c : ComId) where
  -- an item is under way
  way-fits : (front : Front) (p : SystemState) (i : Item) (vs : List Transition) (before : List Given) → IsClients i → IsUnderWay clients program fingerprint x front p i vs → Fits c before front → Fits c (before ++ filter_map (received_by c) (traces_of vs)) (fold saw front (traces_of vs))
  way-fits front p (Asks r stop) vs before own u f =
      let n = is-new front r stop u.event u.is in
      new-fits c before front r stop (traces_of vs) own n.new (subst (λ e. IsOne e (traces_of vs)) n.is (one-event program fingerprint x u.event (not clients.settles) u.left p vs u.executes)) f
  way-fits front p (Plain e) vs before own u f =
      quiet-fits c before front (traces_of vs) (one-quiet u.event (traces_of vs) (ap (λ (e : Event). is_input e.what) (happening e u.event u.is) ∙ own) (one-event program fingerprint x u.event (not clients.settles) u.left p vs u.executes)) f

  round-fits : (front : Front) (p : SystemState) (i : Item) (r : Round Front Asked) (before : List Given) → IsClients i → IsRound clients program fingerprint x front p i r → Fits c before front →
      Fits c (before ++ filter_map (received_by c) (traces_of (transitions_in r))) (side_behind clients front r)
  round-fits front p i (Ran vs) before own is f = way-fits front p i vs before own (record { event = is.0; is = is.1; left = is.2.agenda; executes = is.2.executes }) f
  round-fits front p (Asks r stop) (Told note behind) before own is f = subst (λ l. Fits c l behind) (sym (append-nil before)) (subst (Fits c before) (sym (told-same front behind r stop note is)) f)
  round-fits front p (Plain e) (Told note behind) before own is f = absurd (cc is)
  round-fits front p i (Leapt note behind q) before own is f = absurd is.1

  pub traces-append : (us vs : List Transition) → traces_of (us ++ vs) ≡ traces_of us ++ traces_of vs
  traces-append [] vs = refl
  traces-append (u ∷ us) vs = ap (λ l. u.trace ∷ l) (traces-append us vs)

  rounds-fit : (front : Front) (p : SystemState) (items : List Item) (rs : List (Round Front Asked)) (before : List Given) → ((i : Item) → Contains items i → IsClients i) → AreRounds clients program fingerprint x front p items rs → Fits c before front →
      Fits c (before ++ filter_map (received_by c) (traces_of (transitions_of rs))) (side_after clients front rs)
  rounds-fit front p [] [] before own are f = subst (λ l. Fits c l front) (sym (append-nil before)) f
  rounds-fit front p [] (r ∷ rs) before own are f = absurd are
  rounds-fit front p (i ∷ is) [] before own are f = absurd are
  rounds-fit front p (i ∷ is) (r ∷ rs) before own are f =
      let by : List Transition → List Given = λ vs. filter_map (received_by c) (traces_of vs) in
      let same : by (transitions_in r ++ transitions_of rs) ≡ by (transitions_in r) ++ by (transitions_of rs) =
      ap (filter_map (received_by c)) (traces-append (transitions_in r) (transitions_of rs)) ∙ filter_map-append (received_by c) (traces_of (transitions_in r)) (traces_of (transitions_of rs)) in
      subst (λ l. Fits c l (side_after clients (side_behind clients front r) rs)) (append_assoc before (by (transitions_in r)) (by (transitions_of rs)) ∙ ap (λ l. before ++ l) (sym same))
      (rounds-fit (side_behind clients front r) (state_behind p r) is rs (before ++ by (transitions_in r)) (λ j h. own j (in-tail i j is h)) are.1 (round-fits front p i r before (own i (in-head i is)) are.0 f))

-- the events of items may come
item-may : (program : Program) (i : Item) (w : World) (front : Front) (e : Event) → ItemMayCome program i → turn w front i ≡ Happens e → IsEvent program e
item-may program (Asks r stop) w front e m k = subst (IsEvent program) (sym (is-new front r stop e k).is) m
item-may program (Plain f) w front e m k = subst (IsEvent program) (sym (happening f e k)) m

pub items-may : (program : Program) (items : List Item) → ((i : Item) → Contains items i → ItemMayCome program i) → MayHappen clients program items
items-may program items may i h w front e k = item-may program i w front e (may i h) k

pub no-leaps : (program : Program) (fingerprint : List ℕ) (found : Logs) → LeapsKeep clients program fingerprint found
no-leaps program fingerprint found s p q note k f = absurd k

-- over logs that have no input, behind rounds
pub once-on-way : (program : Program) (fingerprint : List ℕ) (x : PolicyIntervals) (items : List Item) (p : SystemState) (rs : List (Round Front Asked)) (vs : List Transition) (found : Logs) →
    IsFit program → ((i : Item) → Contains items i → ItemMayCome program i) → Stands program fingerprint found p → ((c : ComId) → is_a_pcom program c ≡ true → filter_map input_in (log_at (forced_logs p.world) c) ≡ []) →
    ((i : Item) → Contains items i → IsClients i) → AreRounds clients program fingerprint x [] p items rs → ComeBehind program fingerprint x (side_after clients [] rs) (state_after p rs) vs → EachOnce program (forced_logs (last_state (state_after p rs) vs).world)
once-on-way program fingerprint x items p rs vs found fit may f blank allowed are behind c pcom = by behind
  where
    q : SystemState
    q = state_after p rs

    inputs-at : SystemState → List Given
    inputs-at s = filter_map input_in (log_at (forced_logs s.world) c)

    got : List Transition → List Given
    got us = filter_map (received_by c) (traces_of us)

    fits : Fits c ([] ++ got (transitions_of rs)) (side_after clients [] rs)
    fits = rounds-fit program fingerprint x c [] p items rs [] allowed are (record { has = refl; apart = tt })

    there : Stands program fingerprint found q
    there = all-stand clients program fingerprint x found fit (no-leaps program fingerprint found) [] p items rs (items-may program items may) are f

    first : inputs-at q ≡ [] ++ got (transitions_of rs)
    first = all-gain clients program fingerprint x found fit (no-leaps program fingerprint found) [] p items rs (items-may program items may) are f c pcom ∙ ap (λ l. l ++ got (transitions_of rs)) (blank c pcom)

    by : ComeBehind program fingerprint x (side_after clients [] rs) q vs → AreApart (inputs-at (last_state q vs))
    by (inl y) =
        let u = y.3 in
        let then : inputs-at (last_state q vs) ≡ inputs-at q ++ got vs =
        executions_gain_inputs program fingerprint x (agenda_for clients u.event) u.left q vs found there.here fit.playable fit.flat fit.bytes (one-comes program u.event (not clients.settles) (item-may program y.0 q.world (side_after clients [] rs) u.event y.2 u.is)) there.keeps u.executes there.explained c pcom in
        subst AreApart (sym (then ∙ ap (λ l. l ++ got vs) first)) (way-fits program fingerprint x c (side_after clients [] rs) q y.0 vs ([] ++ got (transitions_of rs)) y.1 u fits).apart
    by (inr y) =
        let then : inputs-at (last_state q vs) ≡ inputs-at q ++ got vs =
        executions_gain_inputs program fingerprint x (whole_agenda [] y.0) y.1 q vs found there.here fit.playable fit.flat fit.bytes (λ e h. empty e h) there.keeps y.2 there.explained c pcom in
        subst AreApart (sym (then ∙ ap (λ l. inputs-at q ++ l) (quiet-receives c (traces_of vs) (rest-quiet program fingerprint x y.0 None y.1 q vs y.2)) ∙ append-nil (inputs-at q) ∙ first)) fits.apart

pub requests_stand_once : RequestsStandOnce
requests_stand_once program fingerprint x items halts p rs vs found fit may f blank run = once-on-way program fingerprint x items p rs vs found fit may f blank run.allowed run.rounds (inr (halts, run.settles.agenda, run.settles.executes))

pub once_in_history : OnceInHistory
once_in_history program found w v ends once c pcom = subst AreApart (sym (ends.inputs c pcom)) (once c pcom)
