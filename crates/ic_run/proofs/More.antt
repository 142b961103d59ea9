-- One transition more at the end of an execution.
use Rattle.std.proofs.Common.{◌≡◌, ◌∙◌, sym, ap, subst, refl, ℕ, suc, ◌+◌, false, cond, List, [], ◌∷◌, ◌++◌, length, append_assoc, arith, Some}
use Rattle.std.proofs.lemmas.List.{append-nil}
use Rattle.ic_base.specs.declared.messages.ComId.{ComId}
use Rattle.ic_base.specs.declared.events.Event.{Event}
use Rattle.ic_base.specs.declared.events.Trace.{Trace}
use Rattle.ic_base.specs.declared.report.ReportLevel.{ReportLevel}
use Rattle.ic_base.specs.declared.scenario.Program.{Program}
use Rattle.def_report.specs.Lines.{trace_lines}
use Rattle.def_run.specs.CoreSteps.{CoreStep}
use Rattle.def_run.specs.Executions.{Agenda, Executes, next, agenda_behind, received_in}
use Rattle.def_run.specs.Reports.{played_in, played_by_all}
use Rattle.def_run.specs.SystemStates.{SystemState, Transition, last_state, traces_of, is_com}
use Rattle.def_step.specs.Calls.{receives}
use Rattle.def_step.specs.Settle.{PolicyIntervals}
use Rattle.def_step.specs.World.{DiskOutcome, happens}
use Rattle.ic_run.specs.Running.{Telling, pieces_of, all_pieces, Follows, AsksNone}
use Rattle.ic_report.specs.Outputs.{if_any}
use Rattle.ic_world.specs.Stepping.{asked_by}

pub last-more : (p : SystemState) (vs : List Transition) (v : Transition) → last_state p (vs ++ v ∷ []) ≡ v.state
last-more p [] v = refl
last-more p (u ∷ us) v = last-more u.state us v

pub last-behind : (p : SystemState) (us ws : List Transition) → last_state p (us ++ ws) ≡ last_state (last_state p us) ws
last-behind p [] ws = refl
last-behind p (u ∷ us) ws = last-behind u.state us ws

pub traces-more : (vs : List Transition) (v : Transition) → traces_of (vs ++ v ∷ []) ≡ traces_of vs ++ v.trace ∷ []
traces-more [] v = refl
traces-more (u ∷ us) v = ap (λ (ts : List Trace). u.trace ∷ ts) (traces-more us v)

pub traces-length : (vs : List Transition) → length (traces_of vs) ≡ length vs
traces-length [] = refl
traces-length (u ∷ us) = ap suc (traces-length us)

module _ (program : Program) (print : List ℕ) (x : PolicyIntervals) where
  abbrev pub IsNext : SystemState → Agenda → Event → List Event → Type 0
  IsNext p a e left = next p.world x a ≡ Some (record { event = e; left = left })

  pub executes-more : (a : Agenda) (p : SystemState) (vs : List Transition) (b : Agenda) (v : Transition) (left : List Event) (c : Agenda)
      → Executes program print x a p vs b → IsNext (last_state p vs) b v.trace.event left → CoreStep program print (last_state p vs) v.trace.event v.trace v.state → agenda_behind b left v.trace ≡ c
      → Executes program print x a p (vs ++ v ∷ []) c
  executes-more a p [] b v left c run is step end =
      let P : Agenda → Type 0 = λ z. IsNext p z v.trace.event left in
      (left, subst P (sym run) is, step, ap (λ z. agenda_behind z left v.trace) run ∙ end)
  executes-more a p (u ∷ us) b v left c run is step end =
      (run.0, run.1, run.2, executes-more (agenda_behind a run.0 u.trace) u.state us b v left c run.3 is step end)

pub follows-more : (program : Program) (x : PolicyIntervals) (a : Agenda) (p : SystemState) (vs : List Transition) (b : Agenda) (v : Transition) (left : List Event) (outcome : DiskOutcome) (c : Agenda)
    → Follows program x a p vs b → next (last_state p vs).world x b ≡ Some (record { event = v.trace.event; left = left }) → happens program (last_state p vs).world v.trace.event outcome ≡ Some (record { world = v.state.world; trace = v.trace }) → agenda_behind b left v.trace ≡ c
    → Follows program x a p (vs ++ v ∷ []) c
follows-more program x a p [] b v left outcome c run is step end =
    let P : Agenda → Type 0 = λ z. next p.world x z ≡ Some (record { event = v.trace.event; left = left }) in
    (left, outcome, subst P (sym run) is, step, ap (λ z. agenda_behind z left v.trace) run ∙ end)
follows-more program x a p (u ∷ us) b v left outcome c run is step end =
    (run.0, run.1, run.2, run.3, follows-more program x (agenda_behind a run.0 u.trace) u.state us b v left outcome c run.4 is step end)

pub received-more : (program : Program) (p : SystemState) (vs : List Transition) (v : Transition) → received_in program p (vs ++ v ∷ []) ≡ received_in program p vs + cond (receives program (last_state p vs).world v.trace.event.what) 1 0
received-more program p [] v = omega arith
received-more program p (u ∷ us) v = omega (arith, received-more program u.state us v)

pub played-more : (p : SystemState) (vs : List Transition) (v : Transition) → played_in p (vs ++ v ∷ []) ≡ played_in p vs + played_by_all (last_state p vs).world.nodes v.state.world.nodes
played-more p [] v = omega arith
played-more p (u ∷ us) v = omega (arith, played-more u.state us v)

pub pieces-more : (tell : Telling) (n : ℕ) (ts : List Trace) (t : Trace) → all_pieces tell n (ts ++ t ∷ []) ≡ all_pieces tell n ts ++ tell (n + length ts) t
pieces-more tell n [] t =
    let same : n ≡ n + 0 = omega arith in
    append-nil (tell n t) ∙ ap (λ k. tell k t) same
pieces-more tell n (u ∷ us) t =
    let same : suc n + length us ≡ n + suc (length us) = omega arith in
    let here : List (List ℕ) = tell n u in
    ap (λ (ps : List (List ℕ)). here ++ ps) (pieces-more tell (suc n) us t ∙ ap (λ k. all_pieces tell (suc n) us ++ tell k t) same)
    ∙ sym (append_assoc here (all_pieces tell (suc n) us) (tell (n + suc (length us)) t))

-- what no event asks for, the last one doesn't either
pub asks-more : (c : ComId) (p : SystemState) (vs : List Transition) (v : Transition) → AsksNone c p (vs ++ v ∷ []) → AsksNone c p vs × (is_com c (asked_by (last_state p vs).world v.trace.event.what) ≡ false)
asks-more c p [] v h = (tt, h.0)
asks-more c p (u ∷ us) v h = let rest = asks-more c u.state us v h.1 in ((h.0, rest.0), rest.1)

-- the lines of an event, by its number
pub told-pieces : (program : Program) (level : ReportLevel) (t : Trace) (n number : ℕ) (lines : List ℕ) → n ≡ number → lines ≡ trace_lines program n t level → if_any lines ≡ pieces_of program level number t
told-pieces program level t n number lines same is = ap if_any (is ∙ ap (λ m. trace_lines program m t level) same)
