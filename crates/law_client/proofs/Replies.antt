-- What is answered again was shown first to its request.
use Rattle.std.proofs.Common.{◌≡◌, ◌∙◌, refl, ap, sym, subst, Bool, true, false, cond, ◌&&◌, List, [], ◌∷◌, ◌++◌, ℕ, ℤ, suc, length, Option, Some, None, is_none}
use Rattle.std.specs.Prelude.{◌==◌, fold, filter_map, ⊤}
use Rattle.std.specs.List.{cons_option}
use Rattle.std.specs.Ordering.{int_eq}
use Rattle.std.proofs.lemmas.Bool.Decides.{Decides-eqb, Decides-int_eq}
use Rattle.std.proofs.lemmas.List.{append-nil, append_assoc}
use Rattle.std.proofs.lemmas.List.Elements.{filter_map-append}
use Rattle.ic_base.specs.declared.messages.ComId.{ComId}
use Rattle.ic_base.specs.declared.messages.Output.{Output}
use Rattle.ic_base.specs.declared.events.Stop.{Stop}
use Rattle.ic_base.specs.declared.events.What.{What}
use Rattle.ic_base.specs.declared.events.What.TheVariants.{Input, Deliver, Lose, Packet as Numbered, Force, Checkpoint, Resend, Emit, Crash, Recover}
use Rattle.ic_base.specs.declared.events.Trace.{Trace}
use Rattle.ic_base.specs.declared.scenario.Program.{Program}
use Rattle.ic_base.specs.Programs.{same_com}
use Rattle.def_step.specs.Settle.{PolicyIntervals}
use Rattle.def_run.specs.CrashFree.{is_received, received_by}
use Rattle.def_run.specs.Executions.{first_of}
use Rattle.def_run.specs.SystemStates.{SystemState, traces_of}
use Rattle.def_rounds.specs.Rounds.{Round, Ran, Told, Leapt, AreRounds, IsRound, side_behind, state_behind, transitions_in, transitions_of, Answers, Turn}
use Rattle.def_client.specs.declared.asked.Asked.{Asked}
use Rattle.def_client.specs.declared.asked.Asked.TheVariants.{New, Pending, Again, Differs}
use Rattle.def_client.specs.Clients.{Item, Asks, Plain, clients, turn_of}
use Rattle.def_client.specs.Fronts.{Request, Taken, Front, same_numbers, same_values, is_numbered, is_under, is_same, taken_under, asked_of, replied, ask, replies_to, shows, saw_event, saw_showing, saw}
use Rattle.def_client.specs.Promises.{takes_request, shown_with, shows_for, IsFirstReply}
use Rattle.law_replay.proofs.Lists.{same-com}
use Rattle.law_client.proofs.Once.{told-same, traces-append}
use Rattle.law_client.specs.Clients.{RepliesAreFirst}

-- it was taken, and nothing with its numbers was shown since
record IsWithout (r : Request) (ts : List Trace) : Type 0 where
  pub before : List Trace
  pub taking : Trace
  pub between : List Trace
  pub are : ts ≡ before ++ taking ∷ between
  pub takes : takes_request r taking ≡ true
  pub none : filter_map (shows_for r) (taking ∷ between) ≡ []

-- what a front keeps as the reply to a request is the first output that was shown with its numbers
abbrev Known : List Trace → Request → Option (ℕ × List ℤ) → Type 0
Known ts r None = IsWithout r ts
Known ts r (Some reply) = IsFirstReply r reply ts

abbrev AllKnown : List Trace → Front → Type 0
AllKnown ts [] = ⊤
AllKnown ts (k ∷ ks) = Known ts k.request k.reply × AllKnown ts ks

-- one trace more
known-more : (ts : List Trace) (t : Trace) (r : Request) (reply : Option (ℕ × List ℤ)) → Known ts r reply → Known (ts ++ t ∷ []) r (first_of reply (shows_for r t))
known-more ts t r (Some x) f = record {
  before = f.before;
  taking = f.taking;
  between = f.between;
  showing = f.showing;
  behind = f.behind ++ t ∷ [];
  are = ap (λ l. l ++ t ∷ []) f.are ∙ append_assoc f.before (f.taking ∷ (f.between ++ f.showing ∷ f.behind)) (t ∷ []) ∙ ap (λ l. f.before ++ f.taking ∷ l) (append_assoc f.between (f.showing ∷ f.behind) (t ∷ []));
  takes = f.takes;
  first = f.first;
  shows = f.shows;
}
known-more ts t r None f = at (shows_for r t) refl
  where
    longer : ts ++ t ∷ [] ≡ f.before ++ f.taking ∷ (f.between ++ t ∷ [])
    longer = ap (λ l. l ++ t ∷ []) f.are ∙ append_assoc f.before (f.taking ∷ f.between) (t ∷ [])

    at : (o : Option (ℕ × List ℤ)) → shows_for r t ≡ o → Known (ts ++ t ∷ []) r o
    at None e = record {
      before = f.before;
      taking = f.taking;
      between = f.between ++ t ∷ [];
      are = longer;
      takes = f.takes;
      none = filter_map-append (shows_for r) (f.taking ∷ f.between) (t ∷ []) ∙ ap (λ l. l ++ filter_map (shows_for r) (t ∷ [])) f.none ∙ ap (λ o. cons_option o []) e;
    }
    at (Some x) e = record { before = f.before; taking = f.taking; between = f.between; showing = t; behind = []; are = longer; takes = f.takes; first = f.none; shows = e }

or-none : (o : Option (ℕ × List ℤ)) → first_of o None ≡ o
or-none None = refl
or-none (Some x) = refl

-- nothing is shown by it
all-quiet : (ts : List Trace) (t : Trace) (front : Front) → ((r : Request) → shows_for r t ≡ None) → AllKnown ts front → AllKnown (ts ++ t ∷ []) front
all-quiet ts t [] quiet f = tt
all-quiet ts t (k ∷ ks) quiet f =
    (subst (Known (ts ++ t ∷ []) k.request) (ap (first_of k.reply) (quiet k.request) ∙ or-none k.reply) (known-more ts t k.request k.reply f.0), all-quiet ts t ks quiet f.1)

-- an output of c is shown by it
replied-so : (o : Output) (k : Taken) (reply : Option (ℕ × List ℤ)) (b : Bool) (z : Option (ℕ × List ℤ)) → z ≡ elim b [ true ↦ Some (o.m, o.args) | false ↦ None ] → (cond (b && is_none reply) (record k { reply = Some (o.m, o.args) }) (record k { reply = reply })).reply ≡ first_of reply z
replied-so o k None true z e = sym e
replied-so o k None false z e = sym e
replied-so o k (Some x) true z e = refl
replied-so o k (Some x) false z e = refl

pub same-request : (c : ComId) (o : Output) (k : Taken) → (replies_to c o k).request ≡ k.request
same-request c o k = at (is_under c o.args k.request && is_none k.reply)
  where
    at : (b : Bool) → (cond b (record k { reply = Some (o.m, o.args) }) k).request ≡ k.request
    at true = refl
    at false = refl

all-shown : (ts : List Trace) (t : Trace) (c : ComId) (x : Output × Bool) (front : Front) → t.event.what ≡ Emit c → t.shown ≡ Some x → AllKnown ts front → AllKnown (ts ++ t ∷ []) (shows c x.0 front)
all-shown ts t c x [] what shown f = tt
all-shown ts t c x (k ∷ ks) what shown f =
    (subst (λ r. Known (ts ++ t ∷ []) r (replies_to c x.0 k).reply) (sym (same-request c x.0 k)) (subst (Known (ts ++ t ∷ []) k.request) (sym reply) (known-more ts t k.request k.reply f.0)), all-shown ts t c x ks what shown f.1)
  where
    shown-here : shows_for k.request t ≡ elim (is_under c x.0.args k.request) [ true ↦ Some (x.0.m, x.0.args) | false ↦ None ]
    shown-here = ap (λ w. shown_with k.request w t.shown) what ∙ ap (λ o. shown_with k.request (Emit c) o) shown

    reply : (replies_to c x.0 k).reply ≡ first_of k.reply (shows_for k.request t)
    reply = replied-so x.0 k k.reply (is_under c x.0.args k.request) (shows_for k.request t) shown-here

-- a request is taken by it
push-known : (ts : List Trace) (front : Front) (k : Taken) → AllKnown ts front → Known ts k.request k.reply → AllKnown ts (front ++ k ∷ [])
push-known ts [] k all f = (f, tt)
push-known ts (j ∷ js) k all f = (all.0, push-known ts js k all.1 f)

numbers-own : (xs : List ℤ) → is_numbered xs ≡ true → same_numbers xs xs ≡ true
numbers-own [] e = absurd (cc e)
numbers-own (u ∷ []) e = absurd (cc e)
numbers-own (u ∷ q ∷ us) e = ap (λ b. b && int_eq q q) ((Decides-int_eq u u).1 refl) ∙ (Decides-int_eq q q).1 refl

input-known : (ts : List Trace) (t : Trace) (front : Front) (d : ComId) (handler : ℕ) (args : List ℤ) → t.event.what ≡ Input d handler args → AllKnown ts front → AllKnown (ts ++ t ∷ []) (saw_event (Input d handler args) (is_received t.answer) front)
input-known ts t front d handler args what f = at (is_received t.answer) refl (is_numbered args) refl
  where
    r : Request
    r = record { who = d; handler = handler; args = args }

    quiet : (r : Request) → shows_for r t ≡ None
    quiet r = ap (λ w. shown_with r w t.shown) what

    received : received_by d t ≡ cond (same_com d d && is_received t.answer) (Some (handler, args)) None
    received = ap (λ w. received_by d (record t { event = record t.event { what = w } })) what

    taking : is_received t.answer ≡ true → is_numbered args ≡ true → takes_request r t ≡ true
    taking e n =
        ap (λ (o : Option (ℕ × List ℤ)). elim o [ None ↦ false | Some x ↦ same_numbers args x.1 ]) (received ∙ ap (λ b. cond (b && is_received t.answer) (Some (handler, args)) None) ((Decides-eqb d.0 d.0).1 refl) ∙ ap (λ b. cond b (Some (handler, args)) None) e)
        ∙ numbers-own args n

    at : (b : Bool) → is_received t.answer ≡ b → (n : Bool) → is_numbered args ≡ n → AllKnown (ts ++ t ∷ []) (cond b (cond n (front ++ record { request = r; reply = None } ∷ []) front) front)
    at true e true n = push-known (ts ++ t ∷ []) front (record { request = r; reply = None }) (all-quiet ts t front quiet f) (record { before = ts; taking = t; between = []; are = refl; takes = taking e n; none = ap (λ o. cons_option o []) (quiet r) })
    at true e false n = all-quiet ts t front quiet f
    at false e true n = all-quiet ts t front quiet f
    at false e false n = all-quiet ts t front quiet f

-- a trace that is neither
saw-known : (ts : List Trace) (t : Trace) (front : Front) → AllKnown ts front → AllKnown (ts ++ t ∷ []) (saw front t)
saw-known ts t front f = at t.event.what refl
  where
    silent : (what : What) → t.event.what ≡ what → ((r : Request) → shown_with r what t.shown ≡ None) → AllKnown (ts ++ t ∷ []) front
    silent what e none = all-quiet ts t front (λ r. ap (λ w. shown_with r w t.shown) e ∙ none r) f

    by-shown : (c : ComId) → t.event.what ≡ Emit c → (o : Option (Output × Bool)) → t.shown ≡ o → AllKnown (ts ++ t ∷ []) (saw_showing (Emit c) o front)
    by-shown c e None s = silent (Emit c) e (λ r. ap (λ o. shown_with r (Emit c) o) s)
    by-shown c e (Some x) s = all-shown ts t c x front e s f

    at : (what : What) → t.event.what ≡ what → AllKnown (ts ++ t ∷ []) (saw_showing what t.shown (saw_event what (is_received t.answer) front))
    at (Input d handler args) e = input-known ts t front d handler args e f
    at (Emit c) e = by-shown c e t.shown refl
    at (Deliver d g) e = silent (Deliver d g) e (λ r. refl)
    at (Lose d g) e = silent (Lose d g) e (λ r. refl)
    at (Numbered i) e = silent (Numbered i) e (λ r. refl)
    at (Force d) e = silent (Force d) e (λ r. refl)
    at (Checkpoint d) e = silent (Checkpoint d) e (λ r. refl)
    at (Resend d) e = silent (Resend d) e (λ r. refl)
    at (Crash d) e = silent (Crash d) e (λ r. refl)
    at (Recover d) e = silent (Recover d) e (λ r. refl)

all-saw : (ts us : List Trace) (front : Front) → AllKnown ts front → AllKnown (ts ++ us) (fold saw front us)
all-saw ts [] front f = subst (λ l. AllKnown l front) (sym (append-nil ts)) f
all-saw ts (u ∷ us) front f = subst (λ l. AllKnown l (fold saw (saw front u) us)) (append_assoc ts (u ∷ []) us) (all-saw (ts ++ u ∷ []) us (saw front u) (saw-known ts u front f))

-- what is answered ----------------------------------------------------------------------------------

-- a request that is found
record IsFound (ts : List Trace) (c : ComId) (args : List ℤ) (k : Taken) : Type 0 where
  pub known : Known ts k.request k.reply
  pub under : is_under c args k.request ≡ true

find-known : (ts : List Trace) (front : Front) (c : ComId) (args : List ℤ) (k : Taken) → AllKnown ts front → taken_under front c args ≡ Some k → IsFound ts c args k
find-known ts [] c args k f e = absurd (cc e)
find-known ts (j ∷ js) c args k f e = at (λ h. find-known ts js c args k f.1 h) (is_under c args j.request) refl e
  where
    same : ◌≡◌ {A = Option Taken} (Some j) (Some k) → j ≡ k
    same h = ap (λ (o : Option Taken). elim o [ None ↦ j | Some z ↦ z ]) h

    at : (taken_under js c args ≡ Some k → IsFound ts c args k) → (b : Bool) → is_under c args j.request ≡ b → cond b (Some j) (taken_under js c args) ≡ Some k → IsFound ts c args k
    at others true u h = subst (IsFound ts c args) (same h) (record { known = f.0; under = u })
    at others false u h = others h

pub both-true : (a b : Bool) → (a && b) ≡ true → (a ≡ true) × (b ≡ true)
both-true true true e = (refl, refl)
both-true true false e = absurd (cc e)
both-true false b e = absurd (cc e)

pub equal-values : (xs ys : List ℤ) → same_values xs ys ≡ true → xs ≡ ys
equal-values [] [] e = refl
equal-values [] (y ∷ ys) e = absurd (cc e)
equal-values (x ∷ xs) [] e = absurd (cc e)
equal-values (x ∷ xs) (y ∷ ys) e =
    let h = both-true (int_eq x y) (same_values xs ys) e in
    ap (λ z. z ∷ xs) ((Decides-int_eq x y).0 h.0) ∙ ap (λ l. y ∷ l) (equal-values xs ys h.1)

-- a request whose component and values are those of another one has its reply
reply-of : (r k : Request) (reply : ℕ × List ℤ) (ts : List Trace) → r.who ≡ k.who → r.args ≡ k.args → IsFirstReply k reply ts → IsFirstReply r reply ts
reply-of r k reply ts who args f = record {
  before = g.before;
  taking = g.taking;
  between = g.between;
  showing = g.showing;
  behind = g.behind;
  are = g.are;
  takes = g.takes;
  first = g.first;
  shows = g.shows;
}
  where
    with : ComId → List ℤ → Request
    with c xs = record { who = c; handler = k.handler; args = xs }

    own : IsFirstReply (with k.who k.args) reply ts
    own = record { before = f.before; taking = f.taking; between = f.between; showing = f.showing; behind = f.behind; are = f.are; takes = f.takes; first = f.first; shows = f.shows }

    g : IsFirstReply (with r.who r.args) reply ts
    g = subst (λ xs. IsFirstReply (with r.who xs) reply ts) (sym args) (subst (λ c. IsFirstReply (with c k.args) reply ts) (sym who) own)

again-known : (ts : List Trace) (front : Front) (r : Request) (m : ℕ) (args : List ℤ) → AllKnown ts front → ask front r ≡ Again m args → IsFirstReply r (m, args) ts
again-known ts front r m args f e = at (taken_under front r.who r.args) refl e
  where
    answered : (k : Taken) → IsFound ts r.who r.args k → is_same r k.request ≡ true → (reply : Option (ℕ × List ℤ)) → Known ts k.request reply → replied reply ≡ Again m args → IsFirstReply r (m, args) ts
    answered k found same None known h = absurd (cc h)
    answered k found same (Some x) known h =
        let numbers : ◌≡◌ {A = ℕ × List ℤ} x (m, args) = ap (λ (a : Asked). elim a [ Again n xs ↦ (n, xs) | _ ↦ x ]) h in
        let here = both-true (same_com r.who k.request.who) (same_numbers r.args k.request.args) found.under in
        let values = both-true (r.handler == k.request.handler) (same_values r.args k.request.args) same in
        subst (λ y. IsFirstReply r y ts) numbers (reply-of r k.request x ts (same-com r.who k.request.who here.0) (equal-values r.args k.request.args values.1) known)

    same-or-not : (k : Taken) → IsFound ts r.who r.args k → (b : Bool) → is_same r k.request ≡ b → cond b (replied k.reply) Differs ≡ Again m args → IsFirstReply r (m, args) ts
    same-or-not k found true s h = answered k found s k.reply found.known h
    same-or-not k found false s h = absurd (cc h)

    at : (o : Option Taken) → taken_under front r.who r.args ≡ o → asked_of o r ≡ Again m args → IsFirstReply r (m, args) ts
    at None t h = absurd (cc h)
    at (Some k) t h = same-or-not k (find-known ts front r.who r.args k f t) (is_same r k.request) refl h

-- the note of a request is its answer
note-is : (front behind : Front) (r : Request) (stop : Option Stop) (note : Asked) → turn_of front r stop (ask front r) ≡ Answers note behind → ask front r ≡ note
note-is front behind r stop note h = at (ask front r) h
  where
    told : Turn Front Asked → Asked
    told (Answers n b) = n
    told _ = New

    at : (a : Asked) → turn_of front r stop a ≡ Answers note behind → a ≡ note
    at New k = absurd (cc k)
    at Pending k = ap told k
    at (Again m args) k = ap told k
    at Differs k = ap told k

module _ (program : Program) (fingerprint : List ℕ) (x : PolicyIntervals) where
  round-known : (ts : List Trace) (front : Front) (p : SystemState) (i : Item) (r : Round Front Asked) → IsRound clients program fingerprint x front p i r → AllKnown ts front → AllKnown (ts ++ traces_of (transitions_in r)) (side_behind clients front r)
  round-known ts front p i (Ran vs) is f = all-saw ts (traces_of vs) front f
  round-known ts front p (Asks r stop) (Told note behind) is f = subst (λ l. AllKnown l behind) (sym (append-nil ts)) (subst (AllKnown ts) (sym (told-same front behind r stop note is)) f)
  round-known ts front p (Plain e) (Told note behind) is f = absurd (cc is)
  round-known ts front p i (Leapt note behind q) is f = absurd is.1

  again-first : (ts : List Trace) (front : Front) (p : SystemState) (is js : List Item) (r : Request) (stop : Option Stop) (before after : List (Round Front Asked)) (m : ℕ) (args : List ℤ) (behind : Front) → AreRounds clients program fingerprint x front p (is ++ Asks r stop ∷ js) (before ++ Told (Again m args) behind ∷ after) → length before ≡ length is →
      AllKnown ts front → IsFirstReply r (m, args) (ts ++ traces_of (transitions_of before))
  again-first ts front p [] js r stop [] after m args behind are same f = subst (IsFirstReply r (m, args)) (sym (append-nil ts)) (again-known ts front r m args f (note-is front behind r stop (Again m args) are.0))
  again-first ts front p [] js r stop (b ∷ before) after m args behind are same f = absurd (cc same)
  again-first ts front p (i ∷ is) js r stop [] after m args behind are same f = absurd (cc same)
  again-first ts front p (i ∷ is) js r stop (b ∷ before) after m args behind are same f =
      subst (IsFirstReply r (m, args)) (append_assoc ts (traces_of (transitions_in b)) (traces_of (transitions_of before)) ∙ ap (λ l. ts ++ l) (sym (traces-append program fingerprint x r.who (transitions_in b) (transitions_of before))))
      (again-first (ts ++ traces_of (transitions_in b)) (side_behind clients front b) (state_behind p b) is js r stop before after m args behind are.1 (less same) (round-known ts front p i b are.0 f))
    where
      less : suc (length before) ≡ suc (length is) → length before ≡ length is
      less e = cc e

pub replies_are_first : RepliesAreFirst
replies_are_first program fingerprint x p is js r stop before after m args behind are same = again-first program fingerprint x [] [] p is js r stop before after m args behind are same tt
