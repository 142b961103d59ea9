-- What a stretch of lines promises.
use Rattle.def_client.specs.declared.asked.Asked.{Asked}
use Rattle.def_client.specs.declared.asked.Asked.TheVariants.{Pending, Again, New, Differs}
use Rattle.std.proofs.Common.{◌≡◌, ◌∙◌, refl, ap, sym, subst, ℕ, true, false, cond, ◌&&◌, List, [], ◌∷◌, ◌++◌, length, Option, Some, None, arith}
use Rattle.std.specs.Prelude.{Contains}
use Rattle.std.proofs.lemmas.List.Elements.{Contains-append_left, Contains-append_right}
use Rattle.std.proofs.lemmas.Option.{same_Some}
use Rattle.ic_base.specs.declared.events.Answer.TheVariants as answers
use Rattle.ic_base.specs.declared.events.Event.{Event}
use Rattle.ic_base.specs.declared.events.What.TheVariants as whats
use Rattle.ic_base.specs.declared.scenario.Program.{Program}
use Rattle.ic_base.specs.Programs.{is_a_pcom}
use Rattle.def_step.specs.Settle.{PolicyIntervals, IsSettled, next_event}
use Rattle.def_step.specs.World.{happens}
use Rattle.def_facts.specs.Logs.{Logs}
use Rattle.def_facts.specs.World.{forced_logs}
use Rattle.def_run.specs.CrashFree.{received_by, is_received}
use Rattle.def_run.specs.Executions.{Next, IsComplete, whole_agenda, next}
use Rattle.def_rounds.specs.Rounds.{Turn, state_after, Happens, Round, Ran, Told, Leapt, AreRounds, IsRound, side_behind, side_after, state_behind}
use Rattle.def_run.specs.SystemStates.{SystemState, Transition, last_state, without_stop}
use Rattle.def_client.specs.Fronts.{Request, Front, ask}
use Rattle.def_serve.specs.Lines.{Line, Asks, Gives, Checkpoints, Values, Refused, Note, input_for, turn, turn_of, serving}
use Rattle.def_serve.specs.Lives.{Stretch, begins_at}
use Rattle.def_serve.specs.Promises.{IsTakenIn}
use Rattle.law_client.specs.Rounds.{Stands, MayHappen}
use Rattle.law_run.specs.ProgramBytes.{IsFit}
use Rattle.law_client.proofs.Along.{all-stand, Parts, parts-of}
use Rattle.law_client.proofs.Fronts.{given}
use Rattle.law_client.proofs.Once.{received-here}
use Rattle.law_replay.proofs.Lists.{in-head, self-com}
use Rattle.law_run.proofs.Complete.{halts-same, none-left}
use Rattle.law_settle.proofs.Ending.{settled_ends_crash_free}
use Rattle.law_settle.proofs.Quiet.{no_event_where_settled}
use Rattle.law_syntax.specs.Events.{IsEvent}
use Rattle.law_serve.specs.Serving.{LineMayCome, StretchesServe}
use Rattle.law_serve.proofs.Fronts.{new_where_none, served_fronts_have_all}
use Rattle.law_serve.proofs.Inputs.{settled_inputs_are_taken}

abbrev event-in : Event → Turn Front Note → Event
event-in other (Happens e) = e
event-in other _ = other

pub happening : (a b : Event) → ◌≡◌ {A = Turn Front Note} (Happens a) (Happens b) → b ≡ a
happening a b e = sym (ap (event-in a) e)

-- the event of a new request
pub asked-event : (front : Front) (r : Request) (e : Event) → turn_of front r (ask front r) ≡ Happens e → e ≡ input_for r
asked-event front r e h = at (ask front r) h
  where
    at : (a : Asked) → turn_of front r a ≡ Happens e → e ≡ input_for r
    at New k = happening (input_for r) e k
    at Pending k = absurd (cc k)
    at (Again m args) k = absurd (cc k)
    at Differs k = absurd (cc k)

pub lines-may : (program : Program) (lines : List Line) → ((l : Line) → Contains lines l → LineMayCome program l) → MayHappen serving program lines
lines-may program lines may i h w front e k = at i (may i h) k
  where
    at : (i : Line) → LineMayCome program i → turn w front i ≡ Happens e → IsEvent program e
    at (Asks r) m k = subst (IsEvent program) (sym (asked-event front r e k)) m.1
    at (Gives r) m k = subst (IsEvent program) (sym (happening (input_for r) e k)) m.1
    at (Checkpoints c) m k = subst (IsEvent program) (sym (happening (without_stop (whats.Checkpoint c)) e k)) (record { handler = tt; values = tt; stop = tt })
    at Values m k = absurd (cc k)
    at (Refused number cause) m k = absurd (cc k)

-- behind each round nothing is left to do
module _ (program : Program) (fingerprint : List ℕ) (x : PolicyIntervals) where
  pub round-quiet : (front : Front) (p : SystemState) (i : Line) (r : Round Front Note) → IsRound serving program fingerprint x front p i r → next_event p.world ≡ None → next_event (state_behind p r).world ≡ None
  round-quiet front p i (Ran vs) is quiet =
      none-left (last_state p vs).world x is.2.agenda (halts-same program fingerprint x (whole_agenda (is.0 ∷ []) false) is.2.agenda p vs is.2.executes) is.2.nothing
  round-quiet front p i (Told note behind) is quiet = quiet
  round-quiet front p i (Leapt note behind q) is quiet = absurd is.1

  rounds-quiet : (front : Front) (p : SystemState) (lines : List Line) (rs : List (Round Front Note)) → AreRounds serving program fingerprint x front p lines rs → next_event p.world ≡ None → next_event (state_after p rs).world ≡ None
  rounds-quiet front p [] [] are quiet = quiet
  rounds-quiet front p [] (r ∷ rs) are quiet = absurd are
  rounds-quiet front p (i ∷ is) [] are quiet = absurd are
  rounds-quiet front p (i ∷ is) (r ∷ rs) are quiet = rounds-quiet (side_behind serving front r) (state_behind p r) is rs are.1 (round-quiet front p i r are.0 quiet)

  -- the input of a line is taken
  taken-in : (found : Logs) (p : SystemState) (r : Request) (vs : List Transition) → is_a_pcom program r.who ≡ true → Stands program fingerprint found p → IsSettled p.world → IsComplete program fingerprint x (whole_agenda (input_for r ∷ []) false) p vs → IsTakenIn r vs
  taken-in found p r [] pcom f settled run = absurd (some-none (record { event = input_for r; left = [] }) (ap (next p.world x) run.executes ∙ run.nothing))
    where
      some-none : (n : Next) → ◌≡◌ {A = Option Next} (Some n) None → ⊥
      some-none n e = cc
  taken-in found p r (v ∷ vs) pcom f settled run = record { first = v; rest = vs; is = refl; taken = took; input = got }
    where
      same : input_for r ≡ v.trace.event
      same = ap (λ (n : Next). n.event) (same_Some (record { event = input_for r; left = [] }) (record { event = v.trace.event; left = run.executes.0 }) run.executes.1)

      took : v.trace.answer ≡ answers.Taken
      took = settled_inputs_are_taken program found f.here p.world r.who r.handler r.args run.executes.2.outcome (record { world = v.state.world; trace = v.trace }) f.explained.explained settled pcom
          (subst (λ e. happens program p.world e run.executes.2.outcome ≡ Some (record { world = v.state.world; trace = v.trace })) (sym same) run.executes.2.happens)

      got : received_by r.who v.trace ≡ Some (given r.handler r.args)
      got = received-here r.who v.trace r (ap (λ (e : Event). e.what) (sym same))
          ∙ ap (λ b. cond (b && is_received v.trace.answer) (Some (given r.handler r.args)) None) (self-com r.who)
          ∙ ap (λ a. cond (is_received a) (Some (given r.handler r.args)) None) took

-- lists of one length in front
abbrev tail-of : List Line → List Line
tail-of [] = []
tail-of (x ∷ xs) = xs

same-rest : (xs us ys vs : List Line) → xs ++ ys ≡ us ++ vs → length xs ≡ length us → ys ≡ vs
same-rest [] [] ys vs e n = e
same-rest [] (u ∷ us) ys vs e n = absurd (omega (arith, n))
same-rest (x ∷ xs) [] ys vs e n = absurd (omega (arith, n))
same-rest (x ∷ xs) (u ∷ us) ys vs e n = same-rest xs us ys vs (ap tail-of e) (omega (arith, n))

module _ (program : Program) (fingerprint : List ℕ) (x : PolicyIntervals) (found : Logs) (front : Front) (s : Stretch) (fit : IsFit program) (may : (l : Line) → Contains s.lines l → LineMayCome program l) (f : Stands program fingerprint found (begins_at s)) (quiet : next_event (begins_at s).world ≡ None) (are : AreRounds serving program fingerprint x front (begins_at s) s.lines s.rounds) where
  parts : (before after : List (Round Front Note)) → s.rounds ≡ before ++ after → Parts serving program fingerprint x front (begins_at s) s.lines before after
  parts before after e = parts-of serving program fingerprint x front (begins_at s) s.lines before after (subst (λ l. AreRounds serving program fingerprint x front (begins_at s) s.lines l) e are)

  first-may : (before after : List (Round Front Note)) (e : s.rounds ≡ before ++ after) → MayHappen serving program (parts before after e).first
  first-may before after e = let y = parts before after e in lines-may program y.first (λ l h. may l (subst (λ k. Contains k l) (sym y.are) (Contains-append_left y.first y.rest l h)))

  stands-there : (before after : List (Round Front Note)) → s.rounds ≡ before ++ after → Stands program fingerprint found (state_after (begins_at s) before)
  stands-there before after e = let y = parts before after e in all-stand serving program fingerprint x found fit (λ t p q note k g. absurd k) front (begins_at s) y.first before (first-may before after e) y.begun f

  settled-there : (before after : List (Round Front Note)) → s.rounds ≡ before ++ after → IsSettled (state_after (begins_at s) before).world
  settled-there before after e =
      let y = parts before after e in
      let g = stands-there before after e in
      (no_event_where_settled program found g.here (state_after (begins_at s) before).world g.explained.explained.0 g.explained.explained.1).0 (rounds-quiet program fingerprint x front (begins_at s) y.first before y.begun quiet)

  -- the round of a line
  round-at : (is js : List Line) (i : Line) (before after : List (Round Front Note)) (r : Round Front Note) → s.lines ≡ is ++ i ∷ js → s.rounds ≡ before ++ r ∷ after → length before ≡ length is → IsRound serving program fingerprint x (side_after serving front before) (state_after (begins_at s) before) i r
  round-at is js i before after r at e n =
      let y = parts before (r ∷ after) e in
      (subst (λ l. AreRounds serving program fingerprint x (side_after serving front before) (state_after (begins_at s) before) l (r ∷ after)) (same-rest y.first is y.rest (i ∷ js) (sym y.are ∙ at) (y.long ∙ n)) y.then).0

  line-in : (is js : List Line) (i : Line) → s.lines ≡ is ++ i ∷ js → Contains s.lines i
  line-in is js i at = subst (λ l. Contains l i) (sym at) (Contains-append_right is (i ∷ js) i (in-head i js))

pub stretches_serve : StretchesServe
stretches_serve program fingerprint x found front s fit may f quiet has are = record {
  settled = there;
  ends = λ before after e. let g = stands-there program fingerprint x found front s fit may f quiet are before after e in settled_ends_crash_free program found g.here (state_after (begins_at s) before).world fit.playable g.explained.explained (there before after e);
  gives = λ is js r before after vs at e n.
      let k = round-at program fingerprint x found front s fit may f quiet are is js (Gives r) before after (Ran vs) at e n in
      taken-in program fingerprint x found (state_after (begins_at s) before) r vs (may (Gives r) (line-in program fingerprint x found front s fit may f quiet are is js (Gives r) at)).0 (stands-there program fingerprint x found front s fit may f quiet are before (Ran vs ∷ after) e) (there before (Ran vs ∷ after) e)
      (subst (λ (z : Event). IsComplete program fingerprint x (whole_agenda (z ∷ []) false) (state_after (begins_at s) before) vs) (happening (input_for r) k.0 k.1) k.2);
  asks = λ is js r before after vs at e n.
      let k = round-at program fingerprint x found front s fit may f quiet are is js (Asks r) before after (Ran vs) at e n in
      taken-in program fingerprint x found (state_after (begins_at s) before) r vs (may (Asks r) (line-in program fingerprint x found front s fit may f quiet are is js (Asks r) at)).0 (stands-there program fingerprint x found front s fit may f quiet are before (Ran vs ∷ after) e) (there before (Ran vs ∷ after) e)
      (subst (λ (z : Event). IsComplete program fingerprint x (whole_agenda (z ∷ []) false) (state_after (begins_at s) before) vs) (asked-event (side_after serving front before) r k.0 k.1) k.2);
  once = λ before after r e pcom.
      let y = parts program fingerprint x found front s fit may f quiet are before after e in
      new_where_none program (side_after serving front before) (forced_logs (state_after (begins_at s) before).world) r (served_fronts_have_all program fingerprint x found front (begins_at s) y.first before fit (first-may program fingerprint x found front s fit may f quiet are before after e) f has y.begun) pcom;
}
  where
    there : (before after : List (Round Front Note)) → s.rounds ≡ before ++ after → IsSettled (state_after (begins_at s) before).world
    there = settled-there program fingerprint x found front s fit may f quiet are
