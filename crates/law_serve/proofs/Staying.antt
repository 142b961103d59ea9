-- What is forced stays in front.
use Rattle.std.proofs.Common.{◌≡◌, ◌∙◌, refl, ap, sym, subst, ℕ, Bool, true, false, ◌&&◌, cond, List, [], ◌∷◌, ◌++◌, Option, Some, None, option_map}
use Rattle.std.specs.List.{AllByRecursion}
use Rattle.std.specs.Prelude.{MatchOption, ⊤, Contains}
use Rattle.std.proofs.lemmas.List.{append-nil, append_assoc}
use Rattle.ic_base.specs.declared.messages.ComId.{ComId}
use Rattle.ic_base.specs.declared.messages.Kind.{Kind}
use Rattle.ic_base.specs.declared.messages.Kind.TheVariants as kinds
use Rattle.ic_base.specs.declared.events.Event.{Event}
use Rattle.ic_base.specs.declared.events.Stop.{Stop}
use Rattle.ic_base.specs.declared.events.What.{What}
use Rattle.ic_base.specs.declared.events.What.TheVariants as whats
use Rattle.ic_base.specs.declared.events.Trace.{Trace}
use Rattle.ic_base.specs.declared.record.Record.{Record}
use Rattle.ic_base.specs.declared.scenario.Program.{Program}
use Rattle.def_log.specs.Log.{log_of}
use Rattle.def_step.specs.Settle.{PolicyIntervals, policy_for, next_event, asked_of}
use Rattle.def_step.specs.World.{World, Node, Down, node_at, happens}
use Rattle.def_facts.specs.Logs.{Logs, log_at, IsPrefixOf}
use Rattle.def_facts.specs.World.{forced_of, forced_logs, is_of_kind, kind_of}
use Rattle.def_run.specs.CoreSteps.{CoreStep, forced_of as on_disk}
use Rattle.def_run.specs.Executions.{Agenda, Next, Executes, agenda_behind, whole_agenda, first_of, without_taking, settling, is_input, scheduled, unless_asked, next}
use Rattle.def_run.specs.SystemStates.{SystemState, Transition, KeepsLogs, KeepsLog, file_of, last_state, traces_of, without_stop, is_com}
use Rattle.law_replay.proofs.Lists.{self-com, in-head, in-tail}
use Rattle.law_step.proofs.Nodes.{log-here}
use Rattle.law_step.specs.Steps.{here_behind}
use Rattle.law_run.proofs.Along.{Left, behind-one}
use Rattle.law_run.proofs.Growing.{event_grows}
use Rattle.law_run.proofs.Steps.{disk-log, same-read}
use Rattle.std.proofs.lemmas.List.Elements.{Contains-append_left, Contains-append_right}
use Rattle.def_rounds.specs.Rounds.{state_after, Happens, Round, Ran, Told, Leapt, AreRounds, IsRound, side_behind, side_after, state_behind}
use Rattle.law_syntax.specs.Events.{IsEvent}
use Rattle.def_client.specs.Fronts.{Front}
use Rattle.def_serve.specs.Lines.{Line, Asks, Gives, Checkpoints, Values, Refused, Note, input_for, turn, serving}
use Rattle.def_serve.specs.Lives.{begins_at}
use Rattle.law_client.specs.Rounds.{Stands, MayHappen, LeapsKeep}
use Rattle.law_run.specs.ProgramBytes.{IsFit}
use Rattle.law_client.proofs.Along.{one-comes, round-stands, all-stand, parts-of}
use Rattle.law_serve.specs.Serving.{ToldStands}
use Rattle.law_serve.proofs.Serving.{asked-event, happening, lines-may}

-- stops ------------------------------------------------------------------------------------------------

abbrev pub NoStops : List Trace → Type 0
NoStops [] = ⊤
NoStops (t ∷ ts) = (t.event.stop ≡ None) × NoStops ts

-- none of these events has a stop
abbrev pub AllStopless : List Event → Type 0
AllStopless events = AllByRecursion (λ e. e.stop ≡ None) events

abbrev pub IsStopless : Option Next → Type 0
IsStopless o = MatchOption o ⊤ (λ n. (n.event.stop ≡ None) × AllStopless n.left)

by-what : (left : List Event) (o : Option What) → AllStopless left → IsStopless (option_map (without_taking left) o)
by-what left None all = tt
by-what left (Some what) all = (refl, all)

first-stopless : (a b : Option Next) → IsStopless a → IsStopless b → IsStopless (first_of a b)
first-stopless None b f g = g
first-stopless (Some n) b f g = f

cond-stopless : (b : Bool) (x y : Option Next) → IsStopless x → IsStopless y → IsStopless (cond b x y)
cond-stopless true x y f g = f
cond-stopless false x y f g = g

next-stopless : (w : World) (x : PolicyIntervals) (a : Agenda) → AllStopless a.left → IsStopless (next w x a)
next-stopless w x a all = first-stopless (option_map (without_taking a.left) (policy_for w x a.last)) (unless_asked w a) (by-what a.left (policy_for w x a.last) all) (at a.left all)
  where
    at : (l : List Event) → AllStopless l → IsStopless (elim l [ e ∷ left ↦ scheduled w a.settles_first e left | [] ↦ cond a.halts None (settling w []) ])
    at [] m = cond-stopless a.halts None (settling w []) tt (by-what [] (next_event w) m)
    at (e ∷ left) m = first-stopless (cond (a.settles_first && is_input e.what) (settling w (e ∷ left)) None) (Some (record { event = e; left = left }))
        (cond-stopless (a.settles_first && is_input e.what) (settling w (e ∷ left)) None (by-what (e ∷ left) (next_event w) m) tt) m

pub runs-stopless : (program : Program) (fingerprint : List ℕ) (x : PolicyIntervals) (a b : Agenda) (p : SystemState) (vs : List Transition) → AllStopless a.left → Executes program fingerprint x a p vs b → NoStops (traces_of vs)
runs-stopless program fingerprint x a b p [] all runs = tt
runs-stopless program fingerprint x a b p (v ∷ vs) all runs =
    let n : (v.trace.event.stop ≡ None) × AllStopless runs.0 = subst IsStopless runs.1 (next-stopless p.world x a all) in
    (n.0, runs-stopless program fingerprint x (agenda_behind a runs.0 v.trace) b v.state vs n.1 runs.3)

-- one step -----------------------------------------------------------------------------------------------

-- a component keeps its node
stays-there : (o : Option Kind) (node : Node) → is_of_kind o (Some node) ≡ true → is_of_kind o None ≡ true → ⊥
stays-there None node e f = cc
stays-there (Some kinds.Pcom) node e f = cc
stays-there (Some kinds.Tcom) node e f = cc
stays-there (Some kinds.Xcom) node e f = cc

pub core-grows : (program : Program) (fingerprint : List ℕ) (p : SystemState) (v : Transition) → KeepsLogs fingerprint p → CoreStep program fingerprint p v.trace.event v.trace v.state → v.trace.event.stop ≡ None →
    ((c : ComId) → is_of_kind (kind_of program c) (node_at p.world c) ≡ true) → ((c : ComId) → is_of_kind (kind_of program c) (node_at v.state.world c) ≡ true) → (c : ComId) → IsPrefixOf (log_at (forced_logs p.world) c) (log_at (forced_logs v.state.world) c)
core-grows program fingerprint p v keeps step none kinds later c = at (node_at p.world c) refl (node_at v.state.world c) refl
  where
    same : v.trace.event ≡ without_stop v.trace.event.what
    same = ap (λ (s : Option Stop). let e : Event = record { what = v.trace.event.what; stop = s } in e) none

    loads : (d : ComId) (log : List Record) → node_at p.world d ≡ Some (Down log) → v.trace.event.what ≡ whats.Recover d → step.outcome.found ≡ log
    loads d log down is =
        same-read (log_of (file_of p d)) step.outcome.found log
        (step.disk d (ap (λ (w : What). is_com d (asked_of w v.trace.answer)) is ∙ self-com d)).found
        (subst (KeepsLog fingerprint d (file_of p d)) down (keeps d)).holds

    ran : happens program p.world (without_stop v.trace.event.what) step.outcome ≡ Some (record { world = v.state.world; trace = v.trace })
    ran = subst (λ e. happens program p.world e step.outcome ≡ Some (record { world = v.state.world; trace = v.trace })) same step.happens

    at : (o : Option Node) → node_at p.world c ≡ o → (n : Option Node) → node_at v.state.world c ≡ n → IsPrefixOf (log_at (forced_logs p.world) c) (log_at (forced_logs v.state.world) c)
    at None is n now = subst (λ l. IsPrefixOf l (log_at (forced_logs v.state.world) c)) (ap on_disk (sym is) ∙ disk-log p.world c) (log_at (forced_logs v.state.world) c, refl)
    at (Some old) is None now = absurd (stays-there (kind_of program c) old (ap (is_of_kind (kind_of program c)) (sym is) ∙ kinds c) (ap (is_of_kind (kind_of program c)) (sym now) ∙ later c))
    at (Some old) is (Some new) now =
        subst (λ l. IsPrefixOf l (log_at (forced_logs v.state.world) c)) (sym (log-here forced_of p.world c old is)) (subst (IsPrefixOf (forced_of old)) (sym (log-here forced_of v.state.world c new now))
        (event_grows program p.world v.trace.event.what step.outcome (record { world = v.state.world; trace = v.trace }) loads ran c old new is now))

-- along an execution ---------------------------------------------------------------------------------------

pub then-prefix : {A : Type 0} (xs ys zs : List A) → IsPrefixOf xs ys → IsPrefixOf ys zs → IsPrefixOf xs zs
then-prefix xs ys zs f g = (f.0 ++ g.0, g.1 ∙ ap (λ l. l ++ g.0) f.1 ∙ append_assoc xs f.0 g.0)

pub grows-along : (program : Program) (fingerprint : List ℕ) (x : PolicyIntervals) (b : Agenda) (found : Logs) (here : ComId → ℕ) (p : SystemState) (vs : List Transition) → IsFit program → NoStops (traces_of vs) → Left program fingerprint x b found here p vs →
    (c : ComId) → IsPrefixOf (log_at (forced_logs p.world) c) (log_at (forced_logs (last_state p vs).world) c)
grows-along program fingerprint x b found here p [] fit none l c = ([], sym (append-nil (log_at (forced_logs p.world) c)))
grows-along program fingerprint x b found here p (v ∷ vs) fit none l c =
    let m = behind-one program fingerprint x b found here p v vs fit.playable fit.flat fit.bytes l in
    then-prefix (log_at (forced_logs p.world) c) (log_at (forced_logs v.state.world) c) (log_at (forced_logs (last_state v.state vs).world) c)
    (core-grows program fingerprint p v l.keeps l.runs.2 none.0 l.explained.explained.1.kinds m.explained.explained.1.kinds c)
    (grows-along program fingerprint x b found (here_behind here p.world v.state.world) v.state vs fit none.1 m c)

-- along rounds ---------------------------------------------------------------------------------------------

pub event-stopless : (w : World) (front : Front) (i : Line) (e : Event) → turn w front i ≡ Happens e → e.stop ≡ None
event-stopless w front (Asks r) e k = ap (λ (z : Event). z.stop) (asked-event front r e k)
event-stopless w front (Gives r) e k = ap (λ (z : Event). z.stop) (happening (input_for r) e k)
event-stopless w front (Checkpoints c) e k = ap (λ (z : Event). z.stop) (happening (without_stop (whats.Checkpoint c)) e k)
event-stopless w front Values e k = absurd (cc k)
event-stopless w front (Refused number cause) e k = absurd (cc k)

no-leaps : (program : Program) (fingerprint : List ℕ) (found : Logs) → LeapsKeep serving program fingerprint found
no-leaps program fingerprint found s p q note k f = absurd k

round-grows : (program : Program) (fingerprint : List ℕ) (x : PolicyIntervals) (found : Logs) (front : Front) (p : SystemState) (i : Line) (r : Round Front Note) → IsFit program → ((e : Event) → turn p.world front i ≡ Happens e → IsEvent program e) → Stands program fingerprint found p →
    IsRound serving program fingerprint x front p i r → (c : ComId) → IsPrefixOf (log_at (forced_logs p.world) c) (log_at (forced_logs (state_behind p r).world) c)
round-grows program fingerprint x found front p i (Ran vs) fit may f is c =
    grows-along program fingerprint x is.2.agenda found f.here p vs fit (runs-stopless program fingerprint x (whole_agenda (is.0 ∷ []) false) is.2.agenda p vs (event-stopless p.world front i is.0 is.1, tt) is.2.executes) (record {
      agenda = whole_agenda (is.0 ∷ []) false;
      may = one-comes program is.0 false (may is.0 is.1);
      keeps = f.keeps;
      runs = is.2.executes;
      explained = f.explained;
    }) c
round-grows program fingerprint x found front p i (Told note behind) fit may f is c = ([], sym (append-nil (log_at (forced_logs p.world) c)))
round-grows program fingerprint x found front p i (Leapt note behind q) fit may f is c = absurd is.1

rounds-grow : (program : Program) (fingerprint : List ℕ) (x : PolicyIntervals) (found : Logs) (front : Front) (p : SystemState) (lines : List Line) (rs : List (Round Front Note)) → IsFit program → MayHappen serving program lines → Stands program fingerprint found p →
    AreRounds serving program fingerprint x front p lines rs → (c : ComId) → IsPrefixOf (log_at (forced_logs p.world) c) (log_at (forced_logs (state_after p rs).world) c)
rounds-grow program fingerprint x found front p [] [] fit may f are c = ([], sym (append-nil (log_at (forced_logs p.world) c)))
rounds-grow program fingerprint x found front p [] (r ∷ rs) fit may f are c = absurd are
rounds-grow program fingerprint x found front p (i ∷ is) [] fit may f are c = absurd are
rounds-grow program fingerprint x found front p (i ∷ is) (r ∷ rs) fit may f are c =
    then-prefix (log_at (forced_logs p.world) c) (log_at (forced_logs (state_behind p r).world) c) (log_at (forced_logs (state_after (state_behind p r) rs).world) c)
    (round-grows program fingerprint x found front p i r fit (may i (in-head i is) p.world front) f are.0 c)
    (rounds-grow program fingerprint x found (side_behind serving front r) (state_behind p r) is rs fit (λ j h. may j (in-tail i j is h)) (round-stands serving program fingerprint x found fit (no-leaps program fingerprint found) front p i r (may i (in-head i is) p.world front) are.0 f) are.1 c)

after-more : (p : SystemState) (before after : List (Round Front Note)) → state_after p (before ++ after) ≡ state_after (state_after p before) after
after-more p [] after = refl
after-more p (r ∷ before) after = after-more (state_behind p r) before after

pub told_stands : ToldStands
told_stands program fingerprint x found front s fit may f are = record { stays = λ before after more c e. by before after more c e }
  where
    by : (before after more : List (Round Front Note)) (c : ComId) → s.rounds ≡ before ++ after ++ more → IsPrefixOf (log_at (forced_logs (state_after (begins_at s) before).world) c) (log_at (forced_logs (state_after (begins_at s) (before ++ after)).world) c)
    by before after more c e =
        let y = parts-of serving program fingerprint x front (begins_at s) s.lines before (after ++ more) (subst (λ l. AreRounds serving program fingerprint x front (begins_at s) s.lines l) (e ∙ append_assoc before after more) are) in
        let m = lines-may program s.lines may in
        let first : MayHappen serving program y.first = λ j h. m j (subst (λ k. Contains k j) (sym y.are) (Contains-append_left y.first y.rest j h)) in
        let rest : MayHappen serving program y.rest = λ j h. m j (subst (λ k. Contains k j) (sym y.are) (Contains-append_right y.first y.rest j h)) in
        let there = all-stand serving program fingerprint x found fit (no-leaps program fingerprint found) front (begins_at s) y.first before first y.begun f in
        let z = parts-of serving program fingerprint x (side_after serving front before) (state_after (begins_at s) before) y.rest after more y.then in
        subst (λ q. IsPrefixOf (log_at (forced_logs (state_after (begins_at s) before).world) c) (log_at (forced_logs q.world) c)) (sym (after-more (begins_at s) before after))
        (rounds-grow program fingerprint x found (side_after serving front before) (state_after (begins_at s) before) z.first after fit (λ j h. rest j (subst (λ k. Contains k j) (sym z.are) (Contains-append_left z.first z.rest j h))) there z.begun c)
