-- What is shown along rounds stands among the outputs shown at their end, so it is an output of the crash-free world.
use Rattle.std.proofs.Common.{◌≡◌, ◌∙◌, refl, ap, sym, subst, Bool, true, false, ◌&&◌, List, [], ◌∷◌, ◌++◌, ℕ, ℤ, Option, Some, None, option_map, option_and_then, option_to_list, ⊎_elim}
use Rattle.std.specs.Prelude.{Contains, IsSomeAnd, map}
use Rattle.std.proofs.lemmas.Option.{same_Some}
use Rattle.std.proofs.lemmas.List.{append_assoc}
use Rattle.std.proofs.lemmas.List.Elements.{Contains-append_left, Contains-append_right, Contains-append_cases}
use Rattle.ic_base.specs.declared.messages.ComId.{ComId}
use Rattle.ic_base.specs.declared.messages.Output.{Output}
use Rattle.ic_base.specs.declared.messages.Packet.{Packet}
use Rattle.ic_base.specs.declared.events.Answer.TheVariants as answers
use Rattle.ic_base.specs.declared.events.Event.{Event}
use Rattle.ic_base.specs.declared.events.What.{What}
use Rattle.ic_base.specs.declared.events.What.TheVariants.{Input, Deliver, Lose, Packet as Numbered, Force, Checkpoint, Resend, Emit, Crash, Recover}
use Rattle.ic_base.specs.declared.events.Trace.{Trace}
use Rattle.ic_base.specs.declared.scenario.Program.{Program}
use Rattle.ic_base.specs.Programs.{same_com}
use Rattle.def_plain.specs.Plain.{pcom_at}
use Rattle.def_plain.specs.declared.world.PlainPcom.{PlainPcom}
use Rattle.def_state.specs.Hist.{number_outputs}
use Rattle.def_step.specs.Packets.{receiver_of}
use Rattle.def_step.specs.Pcom.{Call, Gives, Gets, Forces, Checkpoints, Resends, Emits}
use Rattle.def_step.specs.Settle.{PolicyIntervals}
use Rattle.def_step.specs.World.{World, Done, DiskOutcome, After, node_at, packet_at, oldest_of, takes_off, behind, showing_with, unchanged, does_or_stops, calls, crashes, recovers, delivers, delivers_oldest, loses, loses_oldest, happens_as, happens}
use Rattle.def_run.specs.Executions.{Agenda, Executes, agenda_behind, whole_agenda}
use Rattle.def_run.specs.SystemStates.{SystemState, Transition, last_state, traces_of}
use Rattle.def_rounds.specs.Rounds.{Round, Ran, Told, Leapt, AreRounds, IsRound, side_behind, state_behind, state_after, transitions_in, transitions_of}
use Rattle.def_client.specs.declared.asked.Asked.{Asked}
use Rattle.def_client.specs.Clients.{Item, clients}
use Rattle.def_client.specs.Fronts.{Request, Front, same_numbers}
use Rattle.def_client.specs.Promises.{shown_with, shows_for}
use Rattle.def_client.specs.Rebuilding.{outputs_of}
use Rattle.law_replay.proofs.Lists.{empty, head-or-tail, in-head, in-tail, mapped, none-some, same-com}
use Rattle.law_run.proofs.Along.{at-the-end}
use Rattle.law_run.specs.Executions.{here_along}
use Rattle.law_sound.proofs.Showings.{showings_are_plain}
use Rattle.law_client.specs.Clients.{RepliesArePlain}
use Rattle.law_client.proofs.Along.{all-stand}
use Rattle.law_client.proofs.Once.{items-may, no-leaps, traces-append}
use Rattle.law_client.proofs.Replies.{both-true}

-- a trace shows this output of c
pub record Shows (c : ComId) (o : Output) (t : Trace) : Type 0 where
  pub again : Bool
  pub what : t.event.what ≡ Emit c
  pub is : t.shown ≡ Some (o, again)

abbrev pub HasShown : ComId → Output → World → Type 0
HasShown c o w = Contains {X = ComId × Output} w.showings (c, o)

-- an event keeps what was shown, and what it shows stands there
record Adds (w : World) (a : After) : Type 0 where
  pub keeps : (c : ComId) (o : Output) → HasShown c o w → HasShown c o a.world
  pub shows : (c : ComId) (o : Output) → Shows c o a.trace → HasShown c o a.world

behind-adds : (w : World) (e : Event) (c : ComId) (d : Done) → ((k : ComId) → e.what ≡ Emit k → k ≡ c) → Adds w (behind w e c d)
behind-adds w e c d only = record {
  keeps = λ k o h. Contains-append_left w.showings (map (λ o. (c, o)) (option_to_list d.shown)) (k, o) h;
  shows = λ k o s. subst (λ z. Contains {X = ComId × Output} (w.showings ++ map (λ o. (c, o)) (option_to_list d.shown)) (z, o)) (sym (only k s.what)) (Contains-append_right w.showings (map (λ o. (c, o)) (option_to_list d.shown)) (c, o) (here d.shown o s.again s.is));
}
  where
    here : (u : Option Output) (o : Output) (again : Bool) → option_map (showing_with w c) u ≡ Some (o, again) → Contains {X = ComId × Output} (map (λ o. (c, o)) (option_to_list u)) (c, o)
    here None o again e = none-some (o, again) e
    here (Some y) o again e = let same : y ≡ o = ap (λ (z : Output × Bool). z.0) (same_Some (showing_with w c y) (o, again) e) in subst (λ z. Contains {X = ComId × Output} ((c, z) ∷ []) (c, o)) (sym same) (in-head {A = ComId × Output} (c, o) [])

none-adds : (w : World) (a : After) → a.world.showings ≡ w.showings → a.trace.shown ≡ None → Adds w a
none-adds w a same none = record {
  keeps = λ c o h. subst (λ (l : List (ComId × Output)). Contains l (c, o)) (sym same) h;
  shows = λ c o s. none-some (o, s.again) (sym none ∙ s.is);
}

calls-adds : (program : Program) (w : World) (e : Event) (x : DiskOutcome) (c : ComId) (number : ℕ) (call : Call) (a : After) → ((k : ComId) → e.what ≡ Emit k → k ≡ c) → calls program w e x c number call ≡ Some a → Adds w a
calls-adds program w e x c number call a only ran =
    let d = mapped (behind w e c) (option_and_then (λ node. does_or_stops program c node e.stop x number call) (node_at w c)) a ran in
    subst (Adds w) d.2 (behind-adds w e c d.0 only)

abbrev emits : What → ComId → ComId
emits (Emit c) d = c
emits _ d = d

event-adds : (program : Program) (w : World) (e : Event) (x : DiskOutcome) (a : After) → happens program w e x ≡ Some a → Adds w a
event-adds program w e x a ran = by e.what refl ran
  where
    still : (b : After) → b ≡ a → b.world.showings ≡ w.showings → b.trace.shown ≡ None → Adds w a
    still b same is none = subst (Adds w) same (none-adds w b is none)

    delivered : (i : ℕ) → ((c : ComId) (k : ComId) → e.what ≡ Emit k → k ≡ c) → (o : Option Packet) → delivers program w e x i o ≡ Some a → Adds w a
    delivered i never None went = still (unchanged w e answers.Unknown) (same_Some (unchanged w e answers.Unknown) a went) refl refl
    delivered i never (Some p) went = let g = calls-adds program (takes_off w i) e x (receiver_of p) i (Gets p) a (never (receiver_of p)) went in record { keeps = g.keeps; shows = g.shows }

    oldest : ((c : ComId) (k : ComId) → e.what ≡ Emit k → k ≡ c) → (o : Option ℕ) → delivers_oldest program w e x o ≡ Some a → Adds w a
    oldest never None went = still (unchanged w e answers.Empty) (same_Some (unchanged w e answers.Empty) a went) refl refl
    oldest never (Some i) went = delivered i never (packet_at w i) went

    gone : (i : ℕ) (o : Option Packet) → loses w e i o ≡ a → Adds w a
    gone i None same = still (loses w e i None) same refl refl
    gone i (Some p) same = still (loses w e i (Some p)) same refl refl

    lost : (o : Option ℕ) → loses_oldest w e o ≡ a → Adds w a
    lost None same = still (loses_oldest w e None) same refl refl
    lost (Some i) same = gone i (packet_at w i) same

    by : (what : What) → e.what ≡ what → happens_as program w e x what ≡ Some a → Adds w a
    by (Emit c) is went = calls-adds program w e x c 0 Emits a (λ k emit. ap (λ u. emits u c) (sym emit ∙ is)) went
    by (Input c handler args) is went = calls-adds program w e x c 0 (Gives handler args) a (λ k emit. absurd (let h : ◌≡◌ {A = What} (Input c handler args) (Emit k) = sym is ∙ emit in cc)) went
    by (Force c) is went = calls-adds program w e x c 0 Forces a (λ k emit. absurd (let h : ◌≡◌ {A = What} (Force c) (Emit k) = sym is ∙ emit in cc)) went
    by (Checkpoint c) is went = calls-adds program w e x c 0 Checkpoints a (λ k emit. absurd (let h : ◌≡◌ {A = What} (Checkpoint c) (Emit k) = sym is ∙ emit in cc)) went
    by (Resend c) is went = calls-adds program w e x c 0 Resends a (λ k emit. absurd (let h : ◌≡◌ {A = What} (Resend c) (Emit k) = sym is ∙ emit in cc)) went
    by (Numbered i) is went = delivered i (λ c k emit. absurd (let h : ◌≡◌ {A = What} (Numbered i) (Emit k) = sym is ∙ emit in cc)) (packet_at w i) went
    by (Deliver from to) is went = oldest (λ c k emit. absurd (let h : ◌≡◌ {A = What} (Deliver from to) (Emit k) = sym is ∙ emit in cc)) (oldest_of w from to) went
    by (Lose from to) is went = lost (oldest_of w from to) (same_Some (loses_oldest w e (oldest_of w from to)) a went)
    by (Crash c) is went =
        let n = mapped (λ node. behind w e c (crashes node)) (node_at w c) a went in
        subst (Adds w) n.2 (behind-adds w e c (crashes n.0) (λ k emit. absurd (let h : ◌≡◌ {A = What} (Crash c) (Emit k) = sym is ∙ emit in cc)))
    by (Recover c) is went =
        let d = mapped (behind w e c) (option_and_then (recovers program c e.stop x) (node_at w c)) a went in
        subst (Adds w) d.2 (behind-adds w e c d.0 (λ k emit. absurd (let h : ◌≡◌ {A = What} (Recover c) (Emit k) = sym is ∙ emit in cc)))

-- along transitions what was shown is kept, and what their traces show stands at the end
pub record Gathers (p : SystemState) (ts : List Trace) (q : SystemState) : Type 0 where
  pub keeps : (c : ComId) (o : Output) → HasShown c o p.world → HasShown c o q.world
  pub shows : (c : ComId) (o : Output) (t : Trace) → Contains ts t → Shows c o t → HasShown c o q.world

none-gathers : (p : SystemState) → Gathers p [] p
none-gathers p = record { keeps = λ c o h. h; shows = λ c o t h. empty t h }

then-gathers : (p q r : SystemState) (ts us : List Trace) → Gathers p ts q → Gathers q us r → Gathers p (ts ++ us) r
then-gathers p q r ts us f g = record {
  keeps = λ c o h. g.keeps c o (f.keeps c o h);
  shows = λ c o t h s. ⊎_elim (λ k. g.keeps c o (f.shows c o t k s)) (λ k. g.shows c o t k s) (Contains-append_cases ts us t h);
}

pub executions-gather : (program : Program) (fingerprint : List ℕ) (x : PolicyIntervals) (a b : Agenda) (p : SystemState) (vs : List Transition) → Executes program fingerprint x a p vs b → Gathers p (traces_of vs) (last_state p vs)
executions-gather program fingerprint x a b p [] runs = none-gathers p
executions-gather program fingerprint x a b p (v ∷ vs) runs =
    let one = event-adds program p.world v.trace.event runs.2.outcome (record { world = v.state.world; trace = v.trace }) runs.2.happens in
    then-gathers p v.state (last_state v.state vs) (v.trace ∷ []) (traces_of vs) (record {
      keeps = one.keeps;
      shows = λ c o t h s. ⊎_elim (λ (same : v.trace ≡ t). one.shows c o (subst (Shows c o) (sym same) s)) (λ k. empty t k) (head-or-tail v.trace t [] h);
    }) (executions-gather program fingerprint x (agenda_behind a runs.0 v.trace) b v.state vs runs.3)

rounds-gather : (program : Program) (fingerprint : List ℕ) (x : PolicyIntervals) (front : Front) (p : SystemState) (items : List Item) (rs : List (Round Front Asked)) → AreRounds clients program fingerprint x front p items rs → Gathers p (traces_of (transitions_of rs)) (state_after p rs)
rounds-gather program fingerprint x front p [] [] are = none-gathers p
rounds-gather program fingerprint x front p [] (r ∷ rs) are = absurd are
rounds-gather program fingerprint x front p (i ∷ is) [] are = absurd are
rounds-gather program fingerprint x front p (i ∷ is) (r ∷ rs) are =
    subst (λ l. Gathers p l (state_after (state_behind p r) rs)) (sym (traces-append program fingerprint x (record { 0 = 0 }) (transitions_in r) (transitions_of rs)))
    (then-gathers p (state_behind p r) (state_after (state_behind p r) rs) (traces_of (transitions_in r)) (traces_of (transitions_of rs)) (one r are.0) (rounds-gather program fingerprint x (side_behind clients front r) (state_behind p r) is rs are.1))
  where
    one : (r : Round Front Asked) → IsRound clients program fingerprint x front p i r → Gathers p (traces_of (transitions_in r)) (state_behind p r)
    one (Ran vs) is = executions-gather program fingerprint x _ is.2.agenda p vs is.2.executes
    one (Told note behind) is = none-gathers p
    one (Leapt note behind q) is = absurd is.1

-- what is shown to a request ---------------------------------------------------------------------------

record IsShown (r : Request) (reply : ℕ × List ℤ) (t : Trace) : Type 0 where
  pub output : Output
  pub number : output.m ≡ reply.0
  pub values : output.args ≡ reply.1
  pub shows : Shows r.who output t

shown-to : (r : Request) (reply : ℕ × List ℤ) (t : Trace) → shows_for r t ≡ Some reply → IsShown r reply t
shown-to r reply t e = by t.event.what refl t.shown refl e
  where
    under : (c : ComId) (x : Output × Bool) → t.event.what ≡ Emit c → t.shown ≡ Some x → (b : Bool) → (same_com c r.who && same_numbers x.0.args r.args) ≡ b → elim b [ true ↦ Some (x.0.m, x.0.args) | false ↦ None ] ≡ Some reply → IsShown r reply t
    under c x what shown false u e = none-some reply e
    under c x what shown true u e =
        let same : c ≡ r.who = same-com c r.who (both-true (same_com c r.who) (same_numbers x.0.args r.args) u).0 in
        let is : (x.0.m, x.0.args) ≡ reply = same_Some (x.0.m, x.0.args) reply e in
        record { output = x.0; number = ap (λ (z : ℕ × List ℤ). z.0) is; values = ap (λ (z : ℕ × List ℤ). z.1) is; shows = record { again = x.1; what = what ∙ ap Emit same; is = shown } }

    by : (what : What) → t.event.what ≡ what → (o : Option (Output × Bool)) → t.shown ≡ o → shown_with r what o ≡ Some reply → IsShown r reply t
    by (Emit c) is (Some x) shown e = under c x is shown (same_com c r.who && same_numbers x.0.args r.args) refl e
    by (Emit c) is None shown e = none-some reply e
    by (Input c handler args) is o shown e = none-some reply e
    by (Force c) is o shown e = none-some reply e
    by (Checkpoint c) is o shown e = none-some reply e
    by (Resend c) is o shown e = none-some reply e
    by (Numbered i) is o shown e = none-some reply e
    by (Deliver from to) is o shown e = none-some reply e
    by (Lose from to) is o shown e = none-some reply e
    by (Crash c) is o shown e = none-some reply e
    by (Recover c) is o shown e = none-some reply e

plain-output : (o : Option PlainPcom) (x : Output) → IsSomeAnd o (λ p. Contains (number_outputs 1 p.outs) x) → Contains (outputs_of o) x
plain-output None x h = absurd h
plain-output (Some p) x h = h

pub replies_are_plain : RepliesArePlain
replies_are_plain program fingerprint x items halts p rs vs found fit may f run before after is logs v cut sound r reply first =
    let shown = shown-to r reply first.showing first.shows in
    let there = all-stand clients program fingerprint x found fit (no-leaps program fingerprint found) [] p items rs (items-may program items may) run.rounds f in
    let end = at-the-end program fingerprint x (whole_agenda [] halts) run.settles.agenda (state_after p rs) vs found there.here fit.playable fit.flat fit.bytes (λ e h. empty e h) there.keeps run.settles.executes there.explained in
    let all = then-gathers p (state_after p rs) (last_state (state_after p rs) vs) (traces_of (transitions_of rs)) (traces_of vs) (rounds-gather program fingerprint x [] p items rs run.rounds) (executions-gather program fingerprint x (whole_agenda [] halts) run.settles.agenda (state_after p rs) vs run.settles.executes) in
    let stands = all.shows r.who shown.output first.showing (Contains-append_left (traces_of (transitions_of rs)) (traces_of vs) first.showing (subst (λ l. Contains (traces_of (transitions_of l)) first.showing) (sym is) within)) shown.shows in
    (shown.output, shown.number, shown.values, plain-output (pcom_at v r.who) shown.output (showings_are_plain program found (here_along there.here (state_after p rs) vs) (last_state (state_after p rs) vs).world end.explained.explained logs v cut sound r.who shown.output stands))
  where
    parts : (rs us : List (Round Front Asked)) → transitions_of (rs ++ us) ≡ transitions_of rs ++ transitions_of us
    parts [] us = refl
    parts (r ∷ rs) us = ap (λ l. transitions_in r ++ l) (parts rs us) ∙ sym (append_assoc (transitions_in r) (transitions_of rs) (transitions_of us))

    here : Contains (traces_of (transitions_of before)) first.showing
    here = subst (λ l. Contains l first.showing) (sym first.are)
        (Contains-append_right first.before (first.taking ∷ (first.between ++ first.showing ∷ first.behind)) first.showing
        (in-tail first.taking first.showing (first.between ++ first.showing ∷ first.behind) (Contains-append_right first.between (first.showing ∷ first.behind) first.showing (in-head first.showing first.behind))))

    within : Contains (traces_of (transitions_of (before ++ after))) first.showing
    within = subst (λ l. Contains l first.showing) (sym (ap traces_of (parts before after) ∙ traces-append program fingerprint x (record { 0 = 0 }) (transitions_of before) (transitions_of after)))
        (Contains-append_left (traces_of (transitions_of before)) (traces_of (transitions_of after)) first.showing here)
