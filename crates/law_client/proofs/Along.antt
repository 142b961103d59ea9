-- Along rounds each state is explained.
use Rattle.std.proofs.Common.{◌≡◌, ◌∙◌, refl, ap, sym, subst, ⊎_elim, ℕ, suc, length, List, [], ◌∷◌, ◌++◌, not}
use Rattle.std.specs.Prelude.{filter_map, Contains}
use Rattle.std.proofs.lemmas.List.{append-nil, append_assoc}
use Rattle.std.proofs.lemmas.List.Elements.{filter_map-append}
use Rattle.ic_base.specs.declared.events.Event.{Event}
use Rattle.ic_base.specs.declared.scenario.Program.{Program}
use Rattle.def_step.specs.Settle.{PolicyIntervals}
use Rattle.def_run.specs.CrashFree.{GainsInputs, input_in, received_by}
use Rattle.def_run.specs.Executions.{whole_agenda}
use Rattle.def_rounds.specs.Rounds.{Ways, Happens, Round, Ran, Told, Leapt, AreRounds, IsRound, agenda_for, side_behind, side_after, state_behind, state_after, transitions_in, transitions_of}
use Rattle.def_run.specs.SystemStates.{SystemState, Transition, traces_of}
use Rattle.def_facts.specs.Logs.{Logs, log_at}
use Rattle.def_facts.specs.World.{forced_logs}
use Rattle.law_replay.proofs.Lists.{in-head, in-tail, head-or-tail, empty}
use Rattle.law_run.proofs.Along.{at-the-end}
use Rattle.law_run.proofs.Gaining.{executions_gain_inputs}
use Rattle.law_run.specs.Executions.{MayCome, here_along}
use Rattle.law_syntax.specs.Events.{IsEvent}
use Rattle.law_client.specs.Rounds.{Stands, MayHappen, LeapsKeep}
use Rattle.law_run.specs.ProgramBytes.{IsFit}

-- an event alone may come
pub one-comes : (program : Program) (e : Event) (halts : _) → IsEvent program e → MayCome program (whole_agenda (e ∷ []) halts)
one-comes program e halts is f h = subst (IsEvent program) (sym (only e f h)) is
  where
    only : (a b : Event) → Contains (a ∷ []) b → b ≡ a
    only a b h = ⊎_elim (λ k. sym k) (λ k. empty b k) (head-or-tail a b [] h)

module _ {I S N : Type 0} (ways : Ways I S N) (program : Program) (fingerprint : List ℕ) (x : PolicyIntervals) (found : Logs) (fit : IsFit program) (leaps : LeapsKeep ways program fingerprint found) where
  -- one round
  pub round-stands : (s : S) (p : SystemState) (i : I) (r : Round S N) → ((e : Event) → ways.turn p.world s i ≡ Happens e → IsEvent program e) → IsRound ways program fingerprint x s p i r → Stands program fingerprint found p → Stands program fingerprint found (state_behind p r)
  round-stands s p i (Ran vs) may is f =
      let l = at-the-end program fingerprint x (agenda_for ways is.0) is.2.agenda p vs found f.here fit.playable fit.flat fit.bytes (one-comes program is.0 (not ways.settles) (may is.0 is.1)) f.keeps is.2.executes f.explained in
      record { here = here_along f.here p vs; explained = l.explained; keeps = l.keeps }
  round-stands s p i (Told note behind) may is f = f
  round-stands s p i (Leapt note behind q) may is f = (leaps s p q note is.1 f).0

  round-gains : (s : S) (p : SystemState) (i : I) (r : Round S N) → ((e : Event) → ways.turn p.world s i ≡ Happens e → IsEvent program e) → IsRound ways program fingerprint x s p i r → Stands program fingerprint found p → GainsInputs program (forced_logs p.world) (transitions_in r) (state_behind p r).world
  round-gains s p i (Ran vs) may is f c pcom =
      executions_gain_inputs program fingerprint x (agenda_for ways is.0) is.2.agenda p vs found f.here fit.playable fit.flat fit.bytes (one-comes program is.0 (not ways.settles) (may is.0 is.1)) f.keeps is.2.executes f.explained c pcom
  round-gains s p i (Told note behind) may is f c pcom = sym (append-nil (filter_map input_in (log_at (forced_logs p.world) c)))
  round-gains s p i (Leapt note behind q) may is f c pcom = (leaps s p q note is.1 f).1 c pcom ∙ sym (append-nil (filter_map input_in (log_at (forced_logs p.world) c)))

  pub rest-may : (i : I) (is : List I) → MayHappen ways program (i ∷ is) → MayHappen ways program is
  rest-may i is may j h = may j (in-tail i j is h)

  pub all-stand : (s : S) (p : SystemState) (items : List I) (rs : List (Round S N)) → MayHappen ways program items → AreRounds ways program fingerprint x s p items rs → Stands program fingerprint found p → Stands program fingerprint found (state_after p rs)
  all-stand s p [] [] may are f = f
  all-stand s p [] (r ∷ rs) may are f = absurd are
  all-stand s p (i ∷ is) [] may are f = absurd are
  all-stand s p (i ∷ is) (r ∷ rs) may are f =
      all-stand (side_behind ways s r) (state_behind p r) is rs (rest-may i is may) are.1 (round-stands s p i r (may i (in-head i is) p.world s) are.0 f)

  traces-append : (us vs : List Transition) → traces_of (us ++ vs) ≡ traces_of us ++ traces_of vs
  traces-append [] vs = refl
  traces-append (u ∷ us) vs = ap (λ l. u.trace ∷ l) (traces-append us vs)

  pub all-gain : (s : S) (p : SystemState) (items : List I) (rs : List (Round S N)) → MayHappen ways program items → AreRounds ways program fingerprint x s p items rs → Stands program fingerprint found p → GainsInputs program (forced_logs p.world) (transitions_of rs) (state_after p rs).world
  all-gain s p [] [] may are f c pcom = sym (append-nil (filter_map input_in (log_at (forced_logs p.world) c)))
  all-gain s p [] (r ∷ rs) may are f c pcom = absurd are
  all-gain s p (i ∷ is) [] may are f c pcom = absurd are
  all-gain s p (i ∷ is) (r ∷ rs) may are f c pcom =
      let q = state_behind p r in
      let before = filter_map input_in (log_at (forced_logs p.world) c) in
      let by : List Transition → List _ = λ vs. filter_map (received_by c) (traces_of vs) in
      all-gain (side_behind ways s r) q is rs (rest-may i is may) are.1 (round-stands s p i r (may i (in-head i is) p.world s) are.0 f) c pcom
      ∙ ap (λ l. l ++ by (transitions_of rs)) (round-gains s p i r (may i (in-head i is) p.world s) are.0 f c pcom)
      ∙ append_assoc before (by (transitions_in r)) (by (transitions_of rs))
      ∙ ap (λ l. before ++ l) (sym (ap (filter_map (received_by c)) (traces-append (transitions_in r) (transitions_of rs)) ∙ filter_map-append (received_by c) (traces_of (transitions_in r)) (traces_of (transitions_of rs))))

-- the first rounds are those of the first items
pub record Parts {I S N : Type 0} (ways : Ways I S N) (program : Program) (fingerprint : List ℕ) (x : PolicyIntervals) (s : S) (p : SystemState) (items : List I) (before after : List (Round S N)) : Type 0 where
  pub first : List I
  pub rest : List I
  pub are : items ≡ first ++ rest
  pub long : length first ≡ length before
  pub begun : AreRounds ways program fingerprint x s p first before
  pub then : AreRounds ways program fingerprint x (side_after ways s before) (state_after p before) rest after

pub parts-of : {I S N : Type 0} (ways : Ways I S N) (program : Program) (fingerprint : List ℕ) (x : PolicyIntervals) (s : S) (p : SystemState) (items : List I) (before after : List (Round S N)) → AreRounds ways program fingerprint x s p items (before ++ after) → Parts ways program fingerprint x s p items before after
parts-of ways program fingerprint x s p items [] after are = record { first = []; rest = items; are = refl; long = refl; begun = tt; then = are }
parts-of ways program fingerprint x s p [] (r ∷ before) after are = absurd are
parts-of ways program fingerprint x s p (i ∷ is) (r ∷ before) after are =
    let y = parts-of ways program fingerprint x (side_behind ways s r) (state_behind p r) is before after are.1 in
    record { first = i ∷ y.first; rest = y.rest; are = ap (λ l. i ∷ l) y.are; long = ap suc y.long; begun = (are.0, y.begun); then = y.then }
