-- Whatever a crash of the whole machine leaves on the way of a run is taken up.
use Rattle.std.proofs.Common.{◌≡◌, sym, subst, refl, ℕ, List, [], ◌∷◌, ◌++◌, Option, Some, None, inl, inr}
use Rattle.std.proofs.lemmas.List.{append-nil}
use Rattle.std.specs.Prelude.{IfSome}
use Rattle.ic_base.specs.declared.messages.ComId.{ComId}
use Rattle.ic_base.specs.declared.events.Event.{Event}
use Rattle.ic_base.specs.declared.events.What.{What}
use Rattle.ic_base.specs.declared.events.What.TheVariants as whats
use Rattle.ic_base.specs.declared.scenario.Program.{Program}
use Rattle.def_facts.specs.Logs.{Logs}
use Rattle.def_facts.specs.Sound.{AreSound}
use Rattle.def_facts.specs.World.{forced_logs}
use Rattle.def_log.specs.Laws.{IsBytes}
use Rattle.def_run.specs.Executions.{Agenda, Executes, next}
use Rattle.def_run.specs.Openings.{IsFound, BeginsSound}
use Rattle.def_run.specs.SystemStates.{SystemState, Transition, file_in, last_state, without_stop}
use Rattle.ic_run.specs.Running.{coming}
use Rattle.ic_settle.specs.Policies.{intervals_of}
use Rattle.ic_plan.specs.declared.run_texts.RunTexts.{RunTexts}
use Rattle.ic_world.specs.Stepping.{read_by}
use Rattle.law_run.specs.Executions.{here_along}
use Rattle.law_run.proofs.Agendas.{next-is}
use Rattle.law_run.proofs.Along.{Left, behind-all}
use Rattle.law_run.proofs.Images.{found_at_images}
use Rattle.law_run.proofs.Starts.{beginnings_are_explained}
use Rattle.law_syntax.specs.Events.{IsEvent}
use Rattle.ic_run.specs.Crashes.{AreAtRest, AreLeftAt, AreOnWay}
use Rattle.ic_run.specs.Worlds.{agenda_of}
use Rattle.ic_run.proofs.Standing.{are-events}
use Rattle.ic_run.specs.Agendas.{MayRun}

-- the event that is tried is next
abbrev pub IsTried : RunTexts → SystemState → Agenda → Option What → Type 0
IsTried r p agenda tried = IfSome tried (λ what. (event : Event) × (left : List Event) × (event.what ≡ what) × (next p.world (intervals_of r.policy) agenda ≡ Some (record { event = event; left = left })))

stopless : (program : Program) (e : Event) → IsEvent program e → IsEvent program (without_stop e.what)
stopless program e is = record { handler = is.handler; values = is.values; stop = tt }

module _ (r : RunTexts) (may : MayRun r) (files : List (List ℕ)) (p : SystemState) (vs : List Transition) (agenda : Agenda) (executes : Executes r.program r.fingerprint (intervals_of r.policy) (agenda_of r) p vs agenda) (begins : BeginsSound r.program r.fingerprint files p) where
  abbrev found : Logs
  found = forced_logs p.world

  -- what is left behind some of the transitions
  left-at : (front back : List Transition) → vs ≡ front ++ back → Left r.program r.fingerprint (intervals_of r.policy) agenda found (here_along (λ c. 0) p front) (last_state p front) back
  left-at front back is =
      let begun = beginnings_are_explained r.program r.fingerprint files p may.fit.playable may.fit.bytes begins in
      behind-all r.program r.fingerprint (intervals_of r.policy) agenda found (λ c. 0) p front back may.fit.playable may.fit.flat may.fit.bytes (record {
        agenda = agenda_of r;
        may = are-events r may;
        keeps = begun.1;
        runs = subst (λ l. Executes r.program r.fingerprint (intervals_of r.policy) (agenda_of r) p l agenda) is executes;
        explained = begun.0;
      })

  tried-event : (event : Event) (left : List Event) → next (last_state p vs).world (intervals_of r.policy) agenda ≡ Some (record { event = event; left = left }) → IsEvent r.program (without_stop event.what)
  tried-event event left is =
      let l = left-at vs [] (sym (append-nil vs)) in
      let P : Agenda → Type 0 = λ a. next (last_state p vs).world (intervals_of r.policy) a ≡ Some (record { event = event; left = left }) in
      stopless r.program event (next-is r.program (last_state p vs).world (intervals_of r.policy) l.agenda _ l.may (subst P (sym l.runs) is)).event

  module _ (images : List (List ℕ)) (q : SystemState) (start : IsFound r.program r.fingerprint images q) (are : (c : ComId) → IsBytes (file_in images c)) where
    at-rest : (front back : List Transition) → vs ≡ front ++ back → AreAtRest r.program (last_state p front) images → AreSound r.program (forced_logs q.world)
    at-rest front back is reads =
        let l = left-at front back is in
        let crash : What = whats.Crash (record { 0 = 0 }) in
        (found_at_images r.program r.fingerprint found (here_along (λ c. 0) p front) (last_state p front) q crash (read_by (last_state p front)) images may.fit.playable may.fit.flat may.fit.bytes
        (record { handler = tt; values = tt; stop = tt }) l.keeps refl l.explained (λ c. refl) (λ c disk. inl (reads c disk)) are start).0

    at-event : (front back : List Transition) → vs ≡ front ++ back → (what : What) → IsEvent r.program (without_stop what) → AreLeftAt r.program (last_state p front) (Some what) images → AreSound r.program (forced_logs q.world)
    at-event front back is what event (inl reads) = at-rest front back is reads
    at-event front back is what event (inr x) =
        let l = left-at front back is in
        (found_at_images r.program r.fingerprint found (here_along (λ c. 0) p front) (last_state p front) q what (read_by (last_state p front)) images may.fit.playable may.fit.flat may.fit.bytes
        event l.keeps x.0 l.explained (λ c. refl) x.1 are start).0

    at-back : (front back : List Transition) → vs ≡ front ++ back → (tried : Option What) → IsTried r (last_state p vs) agenda tried → AreLeftAt r.program (last_state p front) (coming back tried) images → AreSound r.program (forced_logs q.world)
    at-back front [] is None tries left = at-rest front [] is left
    at-back front [] is (Some what) tries left = at-event front [] is what (subst (λ w. IsEvent r.program (without_stop w)) tries.2 (tried-event tries.0 tries.1 tries.3)) left
    at-back front (v ∷ back) is tried tries left =
        let l = left-at front (v ∷ back) is in
        at-event front (v ∷ back) is v.trace.event.what (stopless r.program v.trace.event (next-is r.program (last_state p front).world (intervals_of r.policy) l.agenda _ l.may l.runs.1).event) left

    pub taken-up : (tried : Option What) → IsTried r (last_state p vs) agenda tried → AreOnWay r.program p vs tried images → BeginsSound r.program r.fingerprint images q
    taken-up tried tries way = inr (record { found = start; bytes = are; sound = at-back way.front way.back way.is tried tries way.left })
