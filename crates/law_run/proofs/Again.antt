-- An output is shown again only where its Pcom was down after the earlier showing.
use Rattle.std.proofs.Common.{◌≡◌, refl, ◌∙◌, ap, sym, subst, ℕ, suc, ◌≤◌, true, List, [], ◌∷◌, ◌++◌, fold, Option, Some, None, ◌⊎◌, inl, inr, ⊎_elim, arith}
use Rattle.std.specs.Prelude.{Contains}
use Rattle.ic_base.specs.declared.messages.ComId.{ComId}
use Rattle.ic_base.specs.declared.messages.Kind.{Kind}
use Rattle.ic_base.specs.declared.messages.Kind.TheVariants as kinds
use Rattle.ic_base.specs.declared.messages.Output.{Output}
use Rattle.ic_base.specs.declared.scenario.Program.{Program}
use Rattle.ic_base.specs.declared.record.Record.{Record}
use Rattle.def_step.specs.Pcom.{Pcom}
use Rattle.def_step.specs.Settle.{PolicyIntervals}
use Rattle.def_step.specs.World.{World, Node, Runs, Serves, Down, External, node_at}
use Rattle.def_run.specs.SystemStates.{SystemState, Transition, last_state}
use Rattle.def_run.specs.Executions.{Agenda}
use Rattle.def_facts.specs.Flat.{HasFlatParts}
use Rattle.def_facts.specs.Logs.{Logs}
use Rattle.def_facts.specs.Playable.{IsPlayable}
use Rattle.def_facts.specs.World.{IsExplained, is_of_kind, kind_of}
use Rattle.law_replay.proofs.Lists.{in-head, in-tail}
use Rattle.law_step.specs.Steps.{life_of, newly_shown, here_behind}
use Rattle.law_step.proofs.Shown.{showings_go_on}
use Rattle.law_run.specs.Executions.{here_along}
use Rattle.law_run.specs.Outputs.{GoesDown, ShownAgainBehindACrash}
use Rattle.law_run.proofs.Along.{Left, behind-one, behind-all}
use Rattle.law_run.specs.ProgramBytes.{HasBytes}

Up : ComId → World → Type 0
Up c w = (p : Pcom) × (node_at w c ≡ Some (Runs p))

-- a Pcom that runs in one world runs or is down in another
up-or-down : (program : Program) (found : Logs) (here also : ComId → ℕ) (w v : World) (c : ComId) → IsExplained program found here w → IsExplained program found also v → Up c w → Up c v ⊎ ((log : List Record) × (node_at v c ≡ Some (Down log)))
unfolding Up
up-or-down program found here also w v c f g up = at (kind_of program c) refl
  where
    by : (o : Option Node) → is_of_kind (Some kinds.Pcom) o ≡ true → ((p : Pcom) × (o ≡ Some (Runs p))) ⊎ ((log : List Record) × (o ≡ Some (Down log)))
    by None e = absurd (cc e)
    by (Some (Runs p)) e = inl (p, refl)
    by (Some (Serves x)) e = absurd (cc e)
    by (Some (Down log)) e = inr (log, refl)
    by (Some External) e = absurd (cc e)

    is : (k : Option Kind) → kind_of program c ≡ k → is_of_kind k (Some (Runs up.0)) ≡ true
    is k e = ap (λ z. is_of_kind z (Some (Runs up.0))) (sym e) ∙ ap (is_of_kind (kind_of program c)) (sym up.1) ∙ f.1.kinds c

    at : (k : Option Kind) → kind_of program c ≡ k → ((p : Pcom) × (node_at v c ≡ Some (Runs p))) ⊎ ((log : List Record) × (node_at v c ≡ Some (Down log)))
    at None e = absurd (cc (is None e))
    at (Some kinds.Pcom) e = by (node_at v c) (ap (λ z. is_of_kind z (node_at v c)) (sym e) ∙ g.1.kinds c)
    at (Some kinds.Tcom) e = absurd (cc (is (Some kinds.Tcom) e))
    at (Some kinds.Xcom) e = absurd (cc (is (Some kinds.Xcom) e))

least : (m : ℕ) (l : List Output) → ((o : Output) → Contains l o → m ≤ o.m) → (n : ℕ) → m ≤ n → m ≤ fold (λ k o. o.m) n l
least m [] all n le = le
least m (o ∷ os) all n le = least m os (λ z h. all z (in-tail o z os h)) o.m (all o (in-head o os))

-- a life goes on
life-is : (n : ℕ) (new : List Output) (w v : World) (c : ComId) → Up c w → Up c v → life_of n new (node_at w c) (node_at v c) ≡ fold (λ k o. o.m) n new
unfolding Up
life-is n new w v c a b = ap (λ o. life_of n new o (node_at v c)) a.1 ∙ ap (life_of n new (Some (Runs a.0))) b.1

lower : (a b m : ℕ) → m ≤ a → suc a ≤ b → m ≤ b
lower a b m e f = omega (arith, e, f)

-- a component that doesn't go down shows no less
on-and-on : (program : Program) (fingerprint : List ℕ) (x : PolicyIntervals) (b : Agenda) (found : Logs) (c : ComId) (m : ℕ) (here : ComId → ℕ) (p : SystemState) (ms ws : List Transition) → IsPlayable program → HasFlatParts program → HasBytes program →
    Left program fingerprint x b found here p (ms ++ ws) → Up c p.world → m ≤ here c → GoesDown c p ms ⊎ (m ≤ here_along here p ms c)
on-and-on program fingerprint x b found c m here p [] ws play flat bytes l up le = inr le
on-and-on program fingerprint x b found c m here p (v ∷ ms) ws play flat bytes l up le =
    let l1 = behind-one program fingerprint x b found here p v (ms ++ ws) play flat bytes l in
    ⊎_elim (λ on. ⊎_elim (λ g. inl (record { front = v ∷ g.front; back = g.back; is = ap (λ l. v ∷ l) g.is; log = g.log; down = g.down })) (λ n. inr n)
    (on-and-on program fingerprint x b found c m (here_behind here p.world v.state.world) v.state ms ws play flat bytes l1 on
    (subst (λ n. m ≤ n) (sym (life-is (here c) (newly_shown c p.world v.state.world) p.world v.state.world c up on))
    (least m (newly_shown c p.world v.state.world) (λ o h. lower (here c) o.m m le (showings_go_on program found here p.world v.trace.event l.runs.2.outcome (record { world = v.state.world; trace = v.trace }) l.explained.explained l.runs.2.happens c o h).above) (here c) le))))
    (λ d. inl (record { front = v ∷ []; back = ms; is = refl; log = d.0; down = d.1 }))
    (up-or-down program found here (here_behind here p.world v.state.world) p.world v.state.world c l.explained.explained l1.explained.explained up)

pub shown_again : ShownAgainBehindACrash
unfolding Up
shown_again program fingerprint x a b p us ms ws v w found here play flat bytes may keeps runs f c o again first second same =
    let l = behind-all program fingerprint x b found here p us (v ∷ (ms ++ (w ∷ ws))) play flat bytes (record { agenda = a; may = may; keeps = keeps; runs = runs; explained = f }) in
    let here0 = here_along here p us in
    let p0 = last_state p us in
    let g = showings_go_on program found here0 p0.world v.trace.event l.runs.2.outcome (record { world = v.state.world; trace = v.trace }) l.explained.explained l.runs.2.happens c o first in
    let l1 = behind-one program fingerprint x b found here0 p0 v (ms ++ (w ∷ ws)) play flat bytes l in
    let here1 = here_behind here0 p0.world v.state.world in
    let is : o.m ≡ here1 c = sym (life-is (here0 c) (newly_shown c p0.world v.state.world) p0.world v.state.world c g.ran g.runs ∙ ap (fold (λ k y. y.m) (here0 c)) g.alone) in
    ⊎_elim (λ down. down) (λ le.
    let l2 = behind-all program fingerprint x b found here1 v.state ms (w ∷ ws) play flat bytes l1 in
    let h = showings_go_on program found (here_along here1 v.state ms) (last_state v.state ms).world w.trace.event l2.runs.2.outcome (record { world = w.state.world; trace = w.trace }) l2.explained.explained l2.runs.2.happens c again second in
    absurd (omega (arith, h.above, le, same)))
    (on-and-on program fingerprint x b found c o.m here1 v.state ms (w ∷ ws) play flat bytes l1 g.runs (subst (λ n. o.m ≤ n) is (self o.m)))
  where
    self : (n : ℕ) → n ≤ n
    self n = omega arith
