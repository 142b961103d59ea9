-- A front that is kept tells the first output of each request.
use Rattle.std.proofs.Common.{◌≡◌, ◌∙◌, refl, ap, sym, subst, ℕ, ℤ, ◌+◌, ◌≤◌, arith, Bool, true, false, ◌&&◌, cond, List, [], ◌∷◌, ◌++◌, length, Option, Some, None, is_none, option_map, ◌⊎◌, inl, inr}
use Rattle.std.specs.Prelude.{◌==◌, Contains, IsSomeAnd, fold, slice_get}
use Rattle.std.proofs.lemmas.Bool.Decides.{Decides-eqb}
use Rattle.std.proofs.lemmas.List.{append_assoc}
use Rattle.std.proofs.lemmas.List.Sums.{fold_push}
use Rattle.std.proofs.lemmas.Option.{same_Some}
use Rattle.ic_base.specs.declared.messages.ComId.{ComId}
use Rattle.ic_base.specs.declared.messages.Kind.{Kind}
use Rattle.ic_base.specs.declared.messages.Kind.TheVariants as kinds
use Rattle.ic_base.specs.declared.messages.Out.{Out}
use Rattle.ic_base.specs.declared.messages.Output.{Output}
use Rattle.ic_base.specs.declared.events.Event.{Event}
use Rattle.ic_base.specs.declared.events.What.{What}
use Rattle.ic_base.specs.declared.events.What.TheVariants.{Input, Deliver, Lose, Packet as Numbered, Force, Checkpoint, Resend, Emit, Crash, Recover}
use Rattle.ic_base.specs.declared.events.Trace.{Trace}
use Rattle.ic_base.specs.declared.record.Record.{Record}
use Rattle.ic_base.specs.declared.record.Record.TheVariants as records
use Rattle.ic_base.specs.declared.scenario.Component.{Component}
use Rattle.ic_base.specs.declared.scenario.Program.{Program}
use Rattle.ic_base.specs.Programs.{same_com, is_a_pcom, is_pcom, declares}
use Rattle.def_client.specs.declared.asked.Asked.{Asked}
use Rattle.def_client.specs.declared.asked.Asked.TheVariants.{Again, Differs}
use Rattle.def_client.specs.Fronts.{Request, Taken, Front, asked_of, replied, is_same, same_values, is_numbered, is_under, same_numbers, taken_under, takes, shows, saw, saw_event, saw_showing}
use Rattle.def_client.specs.Rebuilding.{outputs_at}
use Rattle.def_facts.specs.Logs.{Logs, log_at, last_shown, shown_by, IsPrefixOf}
use Rattle.def_facts.specs.Pcom.{state_after}
use Rattle.def_facts.specs.Sound.{IsSound, state_in}
use Rattle.def_facts.specs.World as worlds
use Rattle.def_facts.specs.World.{Past, IsExplainedBy, ShowingFacts, forced_of, records_of, forced_logs, whole_logs, is_of_kind, kind_of}
use Rattle.def_plain.specs.Plain.{PlainWorld, pcom_at, counted}
use Rattle.def_plain.specs.declared.world.PlainPcom.{PlainPcom}
use Rattle.def_run.specs.CoreSteps.{CoreStep}
use Rattle.def_run.specs.CrashFree.{is_received}
use Rattle.def_run.specs.Executions.{Agenda, Executes, agenda_behind, whole_agenda}
use Rattle.def_run.specs.SystemStates.{is_of, is_com, SystemState, Transition, KeepsLogs, last_state, traces_of}
use Rattle.def_state.specs.Hist.{Hist, outputs_of, number_outputs}
use Rattle.def_rounds.specs.Rounds.{Happens, Round, Ran, Told, Leapt, IsRound, side_behind, state_behind}
use Rattle.def_serve.specs.Lines.{Line, Note, turn, serving}
use Rattle.def_step.specs.Settle.{PolicyIntervals, asked_of as owner_of, next_event}
use Rattle.def_step.specs.World.{World, Node, After, node_at}
use Rattle.law_client.proofs.Along.{one-comes, round-stands}
use Rattle.law_client.proofs.Replies.{both-true, equal-values}
use Rattle.law_client.proofs.Shown.{Shows}
use Rattle.law_client.specs.Rounds.{Stands}
use Rattle.law_run.specs.ProgramBytes.{IsFit}
use Rattle.law_replay.proofs.Lists.{none-some, true-false, in-head, in-tail, some-of, same-com, self-com, open-content}
use Rattle.law_settle.proofs.Ending.{settled_ends_crash_free}
use Rattle.law_settle.proofs.Quiet.{no_event_where_settled}
use Rattle.law_run.proofs.Agendas.{next-is}
use Rattle.law_run.proofs.Steps.{core_steps_keep, disk-tells}
use Rattle.law_run.specs.Executions.{IsExplainedInBytes, MayCome}
use Rattle.law_run.specs.WorldBytes.{WorldFits}
use Rattle.law_step.proofs.Nodes.{log-here}
use Rattle.law_syntax.specs.Events.{IsEvent}
use Rattle.law_serve.proofs.Firsts.{AreNumbered, outputs-numbered, rises-so, Stage, Marked, AllMarked, all-grown, taken-marked, shown-marked, told-of}
use Rattle.law_sound.proofs.Given.{Given}
use Rattle.law_syntax.proofs.Entries.{same-ok}
use Rattle.law_replay.proofs.Outputs.{outputs-below}
use Rattle.law_sound.proofs.Contents.{states_agree}
use Rattle.law_serve.proofs.Replies.{WasThere, Further, Between, plain-has, found-under, taken-joined, was-there, counted-front, made-stands, the-state, put-out-stands, step-on, end, sound, start, between, put-out-still, shown-put-out-there, round-tells}
use Rattle.law_serve.proofs.Showing.{IsLow, quiet-low, emitted, received}
use Rattle.law_serve.proofs.Fronts.{told-kept}
use Rattle.law_serve.proofs.Serving.{round-quiet}
use Rattle.law_serve.proofs.Staying.{NoStops, AllStopless, runs-stopless, event-stopless, core-grows}
use Rattle.law_serve.specs.Replies.{IsReplyOf, IsFirstOutput, IsToldOf, TellsOutputs, TellsFirst, SeeingFrontsTellFirst, ServedFrontsTellFirst, AgainTellsFirst}

-- what others do doesn't touch the requests of d ---------------------------------------------------------

module _ (d : ComId) (outs : List Output) (are : AreNumbered outs) (log : List Record) (high : ℕ) where
  takes-other : (r : Request) (front : Front) → same_com d r.who ≡ false → AllMarked d outs are log high front → AllMarked d outs are log high (takes r front)
  takes-other r front apart all = at (is_numbered r.args)
    where
      new : Taken
      new = record { request = r; reply = None }

      joined : AllMarked d outs are log high (front ++ new ∷ [])
      joined xs t h = by (taken-joined front (new ∷ []) d xs t h)
        where
          by : (taken_under front d xs ≡ Some t) ⊎ (taken_under (new ∷ []) d xs ≡ Some t) → Marked d outs are log high t
          by (inl e) = all xs t e
          by (inr e) = none-some t (sym (ap (λ b. cond (b && same_numbers xs r.args) (Some new) None) apart) ∙ e)

      at : (b : Bool) → AllMarked d outs are log high (cond b (front ++ new ∷ []) front)
      at true = joined
      at false = all

  shows-other : (c : ComId) (o : Output) (front : Front) → same_com d c ≡ false → AllMarked d outs are log high front → AllMarked d outs are log high (shows c o front)
  shows-other c o front apart all args t h = at (is_under c o.args u.request && is_none u.reply) refl z.is
    where
      z : WasThere c o front d args t
      z = was-there c o front d args t h

      u : Taken
      u = z.was

      -- a request of c would be one of d
      one : (is_under c o.args u.request && is_none u.reply) ≡ true → d ≡ c
      one e =
          let mine = both-true (same_com d u.request.who) (same_numbers args u.request.args) (found-under front d args u z.found) in
          let its = both-true (same_com c u.request.who) (same_numbers o.args u.request.args) (both-true (is_under c o.args u.request) (is_none u.reply) e).0 in
          same-com d u.request.who mine.0 ∙ sym (same-com c u.request.who its.0)

      at : (b : Bool) → (is_under c o.args u.request && is_none u.reply) ≡ b → cond b (record u { reply = Some (o.m, o.args) }) u ≡ t → Marked d outs are log high t
      at false isnt same = subst (Marked d outs are log high) same (all args u z.found)
      at true is same = true-false (sym apart ∙ subst (λ k. same_com d k ≡ true) (one is) (self d))
        where
          self : (k : ComId) → same_com k k ≡ true
          self k = grind arith

-- a Pcom has a node --------------------------------------------------------------------------------------

pcom-there : (program : Program) (c : ComId) (o : Option Node) → is_a_pcom program c ≡ true → is_of_kind (kind_of program c) o ≡ true → (n : Node) × (o ≡ Some n)
pcom-there program c (Some n) pcom kind = (n, refl)
pcom-there program c None pcom kind = at (slice_get program.components c.0) pcom kind
  where
    at : (x : Option Component) → declares (λ y. is_pcom y.kind) x ≡ true → is_of_kind (option_map (λ y. y.kind) x) None ≡ true → (n : Node) × (◌≡◌ {A = Option Node} None (Some n))
    at None p k = true-false p
    at (Some y) p k = by y.kind k
      where
        by : (z : Kind) → is_of_kind (Some z) None ≡ true → (n : Node) × (◌≡◌ {A = Option Node} None (Some n))
        by kinds.Pcom e = true-false e
        by kinds.Tcom e = true-false e
        by kinds.Xcom e = true-false e

-- one step -----------------------------------------------------------------------------------------------

module _ (program : Program) (fingerprint : List ℕ) (found : Logs) (fit : IsFit program) (d : ComId) (pcom : is_a_pcom program d ≡ true) (outs : List Output) (are : AreNumbered outs) where
  abbrev Kept : World → Front → Type 0
  Kept w front = AllMarked d outs are (log_at (forced_logs w) d) (last_shown (log_at (whole_logs w) d)) front

  module _ (here : ComId → ℕ) (past : Past) (p : SystemState) (v : Transition) (event : IsEvent program v.trace.event) (none : v.trace.event.stop ≡ None) (keeps : KeepsLogs fingerprint p) (step : CoreStep program fingerprint p v.trace.event v.trace v.state) (f : IsExplainedBy program found here p.world past) (bytes : WorldFits p.world)
      (next_here : ComId → ℕ) (later : Past) (g : IsExplainedBy program found next_here v.state.world later) (front : Front) (shown : (o : Output) → Shows d o v.trace → Contains outs o) (all : Kept p.world front) where
    abbrev pub a : After
    a = record { world = v.state.world; trace = v.trace }

    old : (n : Node) × (node_at p.world d ≡ Some n)
    old = pcom-there program d (node_at p.world d) pcom (f.kinds d)

    new : (n : Node) × (node_at v.state.world d ≡ Some n)
    new = pcom-there program d (node_at v.state.world d) pcom (g.kinds d)

    abbrev pub high : ℕ
    high = last_shown (log_at (whole_logs p.world) d)

    abbrev pub next : ℕ
    next = last_shown (log_at (whole_logs v.state.world) d)

    whole-here : log_at (whole_logs p.world) d ≡ records_of old.0
    whole-here = log-here records_of p.world d old.0 old.1

    low : IsLow high old.0
    low =
        let P : Hist → Type 0 = λ h. ShowingFacts (log_at found d) (log_at (forced_logs p.world) d) (log_at (whole_logs p.world) d) (here d) h (worlds.shown_by d p.world.showings) in
        let s = open-content P (state_after program d (past.received d) (log_at (forced_logs p.world) d)) (f.showings d pcom) in
        (subst (λ l. last_shown l ≤ high) whole-here (omega arith), subst (λ l. last_shown l ≤ high) (log-here forced_of p.world d old.0 old.1) s.2.forced_all)

    grows : IsPrefixOf (log_at (forced_logs p.world) d) (log_at (forced_logs v.state.world) d)
    grows = core-grows program fingerprint p v keeps step none f.kinds g.kinds d

    kept : IsExplainedInBytes program found here p.world
    kept = record { explained = (past, f); bytes = bytes }

    -- where no output with its numbers was shown
    still : next ≤ high → AllMarked d outs are (log_at (forced_logs v.state.world) d) next front
    still less = subst (λ l. AllMarked d outs are l next front) (sym grows.1) (all-grown d outs are (log_at (forced_logs p.world) d) grows.0 high next front less all)

    pub quiet : (v.trace.event.what ≡ Emit d → ⊥) → next ≤ high
    quiet isnt =
        subst (λ l. last_shown l ≤ high) (sym (log-here records_of v.state.world d new.0 new.1))
        (quiet-low program p.world v.trace.event step.outcome a none step.happens f.kinds d pcom old.0 old.1 high isnt
        (λ log down recovers. (disk-tells program fingerprint found here p v fit.playable fit.bytes event keeps step kept d (asked recovers)).found log (old.1 ∙ ap (λ z. Some z) down))
        low new.0 new.1).0
      where
        asked : v.trace.event.what ≡ Recover d → is_of v.trace.event v.trace d ≡ true
        asked is = ap (λ z. is_com d (owner_of z v.trace.answer)) is ∙ self-com d

    -- where it doesn't show an output of d
    calm : (v.trace.event.what ≡ Emit d → ⊥) → Kept v.state.world front
    calm isnt = still (quiet isnt)

    -- an input
    module _ (c : ComId) (handler : ℕ) (args : List ℤ) (is : v.trace.event.what ≡ Input c handler args) where
      no-emit : v.trace.event.what ≡ Emit d → ⊥
      no-emit e = let k : Input c handler args ≡ Emit d = sym is ∙ e in absurd (cc k)

      taken : d ≡ c → is_received v.trace.answer ≡ true → Kept v.state.world (takes (record { who = c; handler = handler; args = args }) front)
      taken one got =
          let z = received program p.world v.trace.event step.outcome a none step.happens f.kinds d pcom old.0 old.1 handler args (is ∙ ap (λ k. Input k handler args) (sym one)) got in
          let few : next ≤ last_shown (records_of old.0) = subst (λ l. next ≤ last_shown l) whole-here (quiet no-emit) in
          subst (λ k. Kept v.state.world (takes (record { who = k; handler = handler; args = args }) front)) one
          (taken-marked d outs are (log_at (forced_logs v.state.world) d) (records_of old.0) [] next z.0 handler args z.1 few front (calm no-emit))

      input-kept : Kept v.state.world (cond (is_received v.trace.answer) (takes (record { who = c; handler = handler; args = args }) front) front)
      input-kept = at (is_received v.trace.answer) refl (same_com d c) refl
        where
          at : (b : Bool) → is_received v.trace.answer ≡ b → (m : Bool) → same_com d c ≡ m → Kept v.state.world (cond b (takes (record { who = c; handler = handler; args = args }) front) front)
          at false got m mine = calm no-emit
          at true got true mine = taken (same-com d c mine) got
          at true got false apart = takes-other d outs are (log_at (forced_logs v.state.world) d) next (record { who = c; handler = handler; args = args }) front apart (calm no-emit)

    -- an output
    module _ (c : ComId) (is : v.trace.event.what ≡ Emit c) where
      others : same_com d c ≡ false → Kept v.state.world front
      others apart = calm (λ e. true-false (sym apart ∙ same e))
        where
          same : v.trace.event.what ≡ Emit d → same_com d c ≡ true
          same e = let k : Emit c ≡ Emit d = sym is ∙ e in subst (λ z. same_com d z ≡ true) (ap (λ (y : What). elim y [ Emit z ↦ z | _ ↦ d ]) (sym k)) (self-com d)

      other : same_com d c ≡ false → (o : Option (Output × Bool)) → Kept v.state.world (saw_showing (Emit c) o front)
      other apart None = others apart
      other apart (Some x) = shows-other d outs are (log_at (forced_logs v.state.world) d) next c x.0 front apart (others apart)

      own : d ≡ c → Kept v.state.world (saw_showing (Emit c) v.trace.shown front)
      own one = at (emitted program p.world v.trace.event step.outcome a none step.happens f.kinds d pcom old.0 old.1 (is ∙ ap (λ k. Emit k) (sym one)) high low)
        where
          at : ((v.trace.shown ≡ None) × (next ≤ high)) ⊎ ((o : Output) × (again : Bool) × (v.trace.shown ≡ Some (o, again)) × (log_at (whole_logs v.state.world) d ≡ records_of old.0 ++ records.Shown o.m ∷ [])) → Kept v.state.world (saw_showing (Emit c) v.trace.shown front)
          at (inl y) = subst (λ o. Kept v.state.world (saw_showing (Emit c) o front)) (sym y.0) (still y.1)
          at (inr y) =
              let whole : log_at (whole_logs v.state.world) d ≡ records_of old.0 ++ records.Shown y.0.m ∷ [] = y.3 in
              let h = some-of (state_after program d (later.received d) (log_at (whole_logs v.state.world) d)) (g.logs.pcoms d pcom).whole.replays in
              let number : y.0.m ≡ last_shown (records_of old.0) + 1 = rises-so program d (later.received d) (log_at (whole_logs v.state.world) d) h.0 h.1 (records_of old.0) [] y.0.m whole in
              let after : y.0.m ≡ high + 1 = number ∙ ap (λ l. last_shown l + 1) (sym whole-here) in
              let there : next ≡ y.0.m = ap last_shown whole ∙ fold_push shown_by 0 (records_of old.0) (records.Shown y.0.m) in
              let stands : counted outs y.0.m ≡ Some y.0 = are.stands y.0 (shown y.0 (record { again = y.1; what = is ∙ ap (λ k. Emit k) (sym one); is = y.2 })) in
              let marked : AllMarked d outs are (log_at (forced_logs p.world) d ++ grows.0) y.0.m (shows d y.0 front) = shown-marked d outs are (log_at (forced_logs p.world) d) grows.0 high y.0.m after front all y.0 stands in
              let placed : AllMarked d outs are (log_at (forced_logs v.state.world) d) next (shows d y.0 front) = subst (λ l. AllMarked d outs are l next (shows d y.0 front)) (sym grows.1) (subst (λ n. AllMarked d outs are (log_at (forced_logs p.world) d ++ grows.0) n (shows d y.0 front)) (sym there) marked) in
              subst (λ o. Kept v.state.world (saw_showing (Emit c) o front)) (sym y.2) (subst (λ k. Kept v.state.world (shows k y.0 front)) one placed)

      emit-kept : Kept v.state.world (saw_showing (Emit c) v.trace.shown front)
      emit-kept = at (same_com d c) refl
        where
          at : (m : Bool) → same_com d c ≡ m → Kept v.state.world (saw_showing (Emit c) v.trace.shown front)
          at true mine = own (same-com d c mine)
          at false apart = other apart v.trace.shown

    pub step-kept : Kept v.state.world (saw front v.trace)
    step-kept = by v.trace.event.what refl
      where
        silent : (what : What) → v.trace.event.what ≡ what → (what ≡ Emit d → ⊥) → Kept v.state.world front
        silent what is isnt = calm (λ e. isnt (sym is ∙ e))

        by : (what : What) → v.trace.event.what ≡ what → Kept v.state.world (saw_showing what v.trace.shown (saw_event what (is_received v.trace.answer) front))
        by (Input c handler args) is = input-kept c handler args is
        by (Emit c) is = emit-kept c is
        by (Deliver c k) is = silent (Deliver c k) is (λ e. absurd (cc e))
        by (Lose c k) is = silent (Lose c k) is (λ e. absurd (cc e))
        by (Numbered i) is = silent (Numbered i) is (λ e. absurd (cc e))
        by (Force c) is = silent (Force c) is (λ e. absurd (cc e))
        by (Checkpoint c) is = silent (Checkpoint c) is (λ e. absurd (cc e))
        by (Resend c) is = silent (Resend c) is (λ e. absurd (cc e))
        by (Crash c) is = silent (Crash c) is (λ e. absurd (cc e))
        by (Recover c) is = silent (Recover c) is (λ e. absurd (cc e))

  -- along an execution
  pub run-kept : (x : PolicyIntervals) (a b : Agenda) (here : ComId → ℕ) (past : Past) (p : SystemState) (vs : List Transition) (front : Front) → MayCome program a → NoStops (traces_of vs) → KeepsLogs fingerprint p → Executes program fingerprint x a p vs b → IsExplainedBy program found here p.world past → WorldFits p.world
      → ((o : Output) (t : Trace) → Contains (traces_of vs) t → Shows d o t → Contains outs o) → Kept p.world front → Kept (last_state p vs).world (fold saw front (traces_of vs))
  run-kept x a b here past p [] front may none keeps runs f bytes shown all = all
  run-kept x a b here past p (v ∷ vs) front may none keeps runs f bytes shown all =
      let next = next-is program p.world x a _ may runs.1 in
      let one = step-on program fingerprint found fit here past p v next.event keeps runs.2 f bytes in
      let more = (core_steps_keep program fingerprint found here p v fit.playable fit.flat fit.bytes next.event keeps runs.2 (record { explained = (past, f); bytes = bytes })).bytes in
      run-kept x (agenda_behind a runs.0 v.trace) b one.here one.later v.state vs (saw front v.trace) next.left none.1 runs.2.logs runs.3 one.explained more (λ o t h. shown o t (in-tail v.trace t (traces_of vs) h))
      (step-kept here past p v next.event none.0 keeps runs.2 f bytes one.here one.later one.explained front (λ o s. shown o v.trace (in-head v.trace (traces_of vs)) s) all)

-- from one world to another ------------------------------------------------------------------------------

-- outputs of the crash-free world, up to so many
low-output : (v : PlainWorld) (c : ComId) (xs : List Out) (more : List Out) (o : Output) → IsSomeAnd (pcom_at v c) (λ (p : PlainPcom). p.outs ≡ xs ++ more) → Contains (outputs_at v c) o → o.m ≤ length xs → Contains (number_outputs 1 xs) o
low-output v c xs more o plain there few =
    let p = open-content (λ (p : PlainPcom). p.outs ≡ xs ++ more) (pcom_at v c) plain in
    counted-front xs more o.m o (ap (λ l. counted (number_outputs 1 l) o.m) (sym p.2) ∙ ap (λ q. counted (rebuilt q) o.m) (sym p.1) ∙ (outputs-numbered v c).stands o there) few
  where
    rebuilt : Option PlainPcom → List Output
    rebuilt None = []
    rebuilt (Some p) = number_outputs 1 p.outs

module _ (program : Program) (fingerprint : List ℕ) (x : PolicyIntervals) (events : List Event) (b : Agenda) (p : SystemState) (vs : List Transition) (found : Logs) (front : Front) (fit : IsFit program) (may : (e : Event) → Contains events e → IsEvent program e) (none : AllStopless events) (s : Stands program fingerprint found p) (runs : Executes program fingerprint x (whole_agenda events false) p vs b)
    (all_before : forced_logs p.world ≡ whole_logs p.world) (all_behind : forced_logs (last_state p vs).world ≡ whole_logs (last_state p vs).world) (tells : TellsOutputs program (forced_logs p.world) front) (firsts : TellsFirst program (forced_logs p.world) front) (c : ComId) (pcom : is_a_pcom program c ≡ true) where
  abbrev q : World
  q = (last_state p vs).world

  abbrev e : Further program found s.explained.explained.0 (last_state p vs).world
  e = end program fingerprint x events b p vs found fit may none s runs

  -- the crash-free world of the logs behind the events, and that of those before
  abbrev v : (v : PlainWorld) × IsSound program (forced_logs (last_state p vs).world) v
  v = sound program fingerprint x events b p vs found fit may none s runs

  abbrev u : (u : PlainWorld) × Given program found (forced_logs p.world) s.explained.explained.0 u
  u = start program fingerprint x events b p vs found fit may none s runs

  abbrev y : Between program fingerprint x events b p vs found fit may none s runs c
  y = between program fingerprint x events b p vs found fit may none s runs c pcom

  -- an output as low as those that were put out before is one of the crash-free world before
  older : (o : Output) → Contains (outputs_at v.0 c) o → o.m ≤ length y.old.plain.outs → Contains (outputs_at u.0 c) o
  older o there few =
      let plain = open-content (λ (z : PlainPcom). IsPrefixOf y.new.plain.outs z.outs) (pcom_at v.0 c) (plain-has program found e.here q e.later e.explained v.0 v.1.legal c y.new pcom y.new_is) in
      let all : plain.0.outs ≡ y.old.plain.outs ++ (y.outs.0 ++ plain.2.0) = plain.2.1 ∙ ap (λ l. l ++ plain.2.0) y.outs.1 ∙ append_assoc y.old.plain.outs y.outs.0 plain.2.0 in
      let has : IsSomeAnd (pcom_at v.0 c) (λ (z : PlainPcom). z.outs ≡ y.old.plain.outs ++ (y.outs.0 ++ plain.2.0)) = subst (λ k. IsSomeAnd k (λ (z : PlainPcom). z.outs ≡ y.old.plain.outs ++ (y.outs.0 ++ plain.2.0))) (sym plain.1) all in
      made-stands program u.0 c y.old o (plain-has program found s.here p.world s.explained.explained.0 s.explained.explained.1 u.0 u.1.run c y.old pcom y.old_is) (low-output v.0 c y.old.plain.outs (y.outs.0 ++ plain.2.0) o has there few)

  -- as many were put out as stand as shown
  shown-few : last_shown (log_at (whole_logs p.world) c) ≤ length y.old.plain.outs
  shown-few =
      let h = the-state program found s.here p.world s.explained.explained.0 s.explained.explained.1 u.0 u.1.run c pcom in
      let same : h.0 ≡ y.old = same_Some h.0 y.old (sym h.1 ∙ y.old_is) in
      omega (arith, h.2.recorded_shown, h.2.top_made, ap (λ (z : Hist). length z.plain.outs) same)

  marked : (args : List ℤ) (t : Taken) → taken_under front c args ≡ Some t → Marked c (outputs_at v.0 c) (outputs-numbered v.0 c) (log_at (forced_logs p.world) c) (last_shown (log_at (whole_logs p.world) c)) t
  marked args t h = by t.reply refl (firsts u.0 c args t u.1.run pcom h)
    where
      by : (o : Option (ℕ × List ℤ)) → t.reply ≡ o → IsToldOf (forced_logs p.world) u.0 c t o → Marked c (outputs_at v.0 c) (outputs-numbered v.0 c) (log_at (forced_logs p.world) c) (last_shown (log_at (whole_logs p.world) c)) t
      by None is told = record {
        before = told.taken.before;
        stamp = told.taken.stamp;
        behind = told.taken.behind;
        is = told.taken.are;
        stage = subst (Stage c (outputs_at v.0 c) (outputs-numbered v.0 c) (last_shown told.taken.before) (last_shown (log_at (whole_logs p.world) c)) t) (sym is)
            (λ o there own up. told.none o (older o there (omega (arith, up, shown-few))) own (subst (λ l. o.m ≤ last_shown (log_at l c)) (sym all_before) up));
      }
      by (Some reply) is told = record {
        before = told.taken.before;
        stamp = told.taken.stamp;
        behind = told.taken.behind;
        is = told.taken.are;
        stage = subst (Stage c (outputs_at v.0 c) (outputs-numbered v.0 c) (last_shown told.taken.before) (last_shown (log_at (whole_logs p.world) c)) t) (sym is) (record {
          output = k.output;
          number = k.number;
          values = k.values;
          own = k.own;
          stands = put-out-stands program found e.here q e.later e.explained v.0 v.1.legal c k.output pcom (put-out-still program fingerprint x events b p vs found fit may none s runs c k.output pcom k.put_out);
          first = λ o there own less. told.first o (older o there (omega (arith, less, few))) own (omega (arith, less, k.number, told.number));
        });
      }
        where
          k : IsReplyOf program (forced_logs p.world) u.0 c t reply
          k = tells u.0 c args t reply u.1.run pcom h is

          few : k.output.m ≤ length y.old.plain.outs
          few =
              let z = open-content (λ (h : Hist). Contains (outputs_of h) k.output) (state_in program (forced_logs p.world) u.0 c) k.put_out in
              let same : z.0 ≡ y.old = same_Some z.0 y.old (sym z.1 ∙ states_agree program found (forced_logs p.world) s.explained.explained.0 u.0 u.1.explains u.1.run c pcom ∙ y.old_is) in
              let less = outputs-below 1 z.0.plain.outs k.output z.2 in
              omega (arith, less, ap (λ (h : Hist). length h.plain.outs) same)

  pub kept-there : AllMarked c (outputs_at v.0 c) (outputs-numbered v.0 c) (log_at (forced_logs (last_state p vs).world) c) (last_shown (log_at (forced_logs (last_state p vs).world) c)) (fold saw front (traces_of vs))
  kept-there =
      let outs = outputs_at v.0 c in
      let are = outputs-numbered v.0 c in
      let shown : (o : Output) (t : Trace) → Contains (traces_of vs) t → Shows c o t → Contains outs o = λ o t there shows. put-out-stands program found e.here q e.later e.explained v.0 v.1.legal c o pcom (shown-put-out-there program fingerprint x events b p vs found fit may none s runs c o t pcom there shows) in
      let run = run-kept program fingerprint found fit c pcom outs are x (whole_agenda events false) b s.here s.explained.explained.0 p vs front may (runs-stopless program fingerprint x (whole_agenda events false) b p vs none runs) s.keeps runs s.explained.explained.1 s.explained.bytes shown marked in
      subst (λ l. AllMarked c outs are (log_at (forced_logs q) c) (last_shown (log_at l c)) (fold saw front (traces_of vs))) (sym all_behind) run

pub seeing_fronts_tell_first : SeeingFrontsTellFirst
seeing_fronts_tell_first program fingerprint x events b p vs found front fit may none s runs all_before all_behind tells firsts w c args t run pcom h =
    let v = sound program fingerprint x events b p vs found fit may none s runs in
    let k = kept-there program fingerprint x events b p vs found front fit may none s runs all_before all_behind tells firsts c pcom args t h in
    subst (λ z. IsToldOf (forced_logs (last_state p vs).world) z c t t.reply) (same-ok {E = ℕ} v.0 w (sym v.1.legal ∙ run)) (told-of (forced_logs (last_state p vs).world) v.0 c t k)

-- along rounds -------------------------------------------------------------------------------------------

-- in a world in which nothing is left to do all is forced
pub all-forced : (program : Program) (fingerprint : List ℕ) (found : Logs) (p : SystemState) → IsFit program → Stands program fingerprint found p → next_event p.world ≡ None → forced_logs p.world ≡ whole_logs p.world
all-forced program fingerprint found p fit s quiet =
    (settled_ends_crash_free program found s.here p.world fit.playable s.explained.explained ((no_event_where_settled program found s.here p.world s.explained.explained.0 s.explained.explained.1).0 quiet)).1.whole

round-tells-first : (program : Program) (fingerprint : List ℕ) (x : PolicyIntervals) (found : Logs) (front : Front) (p : SystemState) (i : Line) (r : Round Front Note) → IsFit program → ((e : Event) → turn p.world front i ≡ Happens e → IsEvent program e) → Stands program fingerprint found p → next_event p.world ≡ None
    → Stands program fingerprint found (state_behind p r) → next_event (state_behind p r).world ≡ None → TellsOutputs program (forced_logs p.world) front → TellsFirst program (forced_logs p.world) front → IsRound serving program fingerprint x front p i r → TellsFirst program (forced_logs (state_behind p r).world) (side_behind serving front r)
round-tells-first program fingerprint x found front p i (Ran vs) fit may s quiet there calm tells firsts is =
    seeing_fronts_tell_first program fingerprint x (is.0 ∷ []) is.2.agenda p vs found front fit (one-comes program is.0 false (may is.0 is.1)) (event-stopless p.world front i is.0 is.1, tt) s is.2.executes
    (all-forced program fingerprint found p fit s quiet) (all-forced program fingerprint found (last_state p vs) fit there calm) tells firsts
round-tells-first program fingerprint x found front p i (Told note behind) fit may s quiet there calm tells firsts is = subst (TellsFirst program (forced_logs p.world)) (sym (told-kept program fingerprint x (record { 0 = 0 }) p.world front behind i note is)) firsts
round-tells-first program fingerprint x found front p i (Leapt note behind q) fit may s quiet there calm tells firsts is = absurd is.1

pub served_fronts_tell_first : ServedFrontsTellFirst
served_fronts_tell_first program fingerprint x found front p [] [] fit may s quiet tells firsts are = firsts
served_fronts_tell_first program fingerprint x found front p [] (r ∷ rs) fit may s quiet tells firsts are = absurd are
served_fronts_tell_first program fingerprint x found front p (i ∷ is) [] fit may s quiet tells firsts are = absurd are
served_fronts_tell_first program fingerprint x found front p (i ∷ is) (r ∷ rs) fit may s quiet tells firsts are =
    let own = may i (in-head i is) p.world front in
    let there = round-stands serving program fingerprint x found fit (λ t q o note k g. absurd k) front p i r own are.0 s in
    let calm = round-quiet program fingerprint x front p i r are.0 quiet in
    served_fronts_tell_first program fingerprint x found (side_behind serving front r) (state_behind p r) is rs fit (λ j h. may j (in-tail i j is h)) there calm
    (round-tells program fingerprint x found front p i r fit own s tells are.0)
    (round-tells-first program fingerprint x found front p i r fit own s quiet there calm tells firsts are.0) are.1

-- what is answered again ---------------------------------------------------------------------------------

pub again_tells_first : AgainTellsFirst
again_tells_first program logs front r m args v firsts pcom asked run = at (taken_under front r.who r.args) refl asked
  where
    answered : (t : Taken) → taken_under front r.who r.args ≡ Some t → is_same r t.request ≡ true → (o : Option (ℕ × List ℤ)) → t.reply ≡ o → replied o ≡ Again m args → IsFirstOutput logs v r.who (record { request = r; reply = Some (m, args) }) (m, args)
    answered t found same None is h = absurd (cc h)
    answered t found same (Some x) is h =
        let told : ◌≡◌ {A = ℕ × List ℤ} x (m, args) = ap (λ (a : Asked). elim a [ Again n xs ↦ (n, xs) | _ ↦ x ]) h in
        let some : t.reply ≡ Some (m, args) = is ∙ ap (λ z. Some z) told in
        let k : IsToldOf logs v r.who t (Some (m, args)) = subst (IsToldOf logs v r.who t) some (firsts v r.who r.args t run pcom found) in
        let here = both-true (same_com r.who t.request.who) (same_numbers r.args t.request.args) (found-under front r.who r.args t found) in
        let equal = both-true (r.handler == t.request.handler) (same_values r.args t.request.args) same in
        let number : r.handler ≡ t.request.handler = (Decides-eqb r.handler t.request.handler).0 equal.0 in
        let values : r.args ≡ t.request.args = equal-values r.args t.request.args equal.1 in
        let who : r.who ≡ t.request.who = same-com r.who t.request.who here.0 in
        let P : ℕ → List ℤ → Type 0 = λ n xs. IsFirstOutput logs v r.who (record { request = record { who = r.who; handler = n; args = xs }; reply = Some (m, args) }) (m, args) in
        subst (λ n. P n r.args) (sym number) (subst (P t.request.handler) (sym values) (record { output = k.output; number = k.number; values = k.values; own = k.own; stands = k.stands; taken = record { before = k.taken.before; stamp = k.taken.stamp; behind = k.taken.behind; are = k.taken.are }; first = k.first }))

    same-or-not : (t : Taken) → taken_under front r.who r.args ≡ Some t → (b : Bool) → is_same r t.request ≡ b → cond b (replied t.reply) Differs ≡ Again m args → IsFirstOutput logs v r.who (record { request = r; reply = Some (m, args) }) (m, args)
    same-or-not t found true same h = answered t found same t.reply refl h
    same-or-not t found false same h = absurd (cc h)

    at : (o : Option Taken) → taken_under front r.who r.args ≡ o → asked_of o r ≡ Again m args → IsFirstOutput logs v r.who (record { request = r; reply = Some (m, args) }) (m, args)
    at None found h = absurd (cc h)
    at (Some t) found h = same-or-not t found (is_same r t.request) refl h
