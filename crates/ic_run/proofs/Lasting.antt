-- Each event on the way outlasts a crash, one event further.
use Rattle.std.proofs.Common.{◌≡◌, ◌∙◌, sym, ap, subst, refl, ℕ, false, List, [], ◌∷◌, ◌++◌, append_assoc, Some, None, ◌⊎◌, inl, inr}
use Rattle.std.proofs.lemmas.Option.{same_Some}
use Rattle.ic_base.specs.declared.events.What.{What}
use Rattle.ic_base.specs.declared.scenario.Program.{Program}
use Rattle.def_run.specs.CoreSteps.{is_full_at}
use Rattle.def_run.specs.Executions.{Agenda, Executes, agenda_behind}
use Rattle.def_run.specs.SystemStates.{SystemState, Transition, last_state}
use Rattle.def_step.specs.Settle.{PolicyIntervals}
use Rattle.ic_disk.specs.declared.disk.Disk.{Ghosts}
use Rattle.ic_disk.specs.declared.sink.Sink as sink
use Rattle.ic_report.specs.Outputs.{Puts}
use Rattle.ic_run.specs.Running.{IsOnWay, CrashLeavesWay, KeepsAll, IsBetween, Outlasts, AllOutlast}
use Rattle.ic_node.specs.Meeting.{KeepsDisk}
use Rattle.ic_node.specs.Views.{disk_of}
use Rattle.ic_node.specs.declared.component.Component.{Component}
use Rattle.ic_world.proofs.Durable.{files-durable}
use Rattle.ic_world.specs.Allowing.{IsMadeFor}
use Rattle.ic_world.specs.Stepping.{KeepsDisks, CrashLeavesLogs}
use Rattle.ic_world.specs.Views.{world_of, state_of, is_over}
use Rattle.ic_world.specs.declared.world.World.{World}
use Rattle.ic_run.proofs.More.{last-behind}
use Rattle.ic_run.proofs.Ways.{way-at, kept-same, left-weaker}
use Rattle.ic_run.proofs.Worlds.{keeps-more, crash-further, crash-taken}

-- a list with one more, cut at one of its members --------------------------------------------------

module _ {A : Type 0} where
  -- the last one, or one before
  abbrev pub IsCutAt : List A → List A → List A → A → A → Type 0
  IsCutAt vs us ws v w = ((us ≡ vs) × (w ≡ v) × (ws ≡ [])) ⊎ ((rest : List A) × (ws ≡ rest ++ v ∷ []) × (vs ≡ us ++ w ∷ rest))

  not-none : (us ws : List A) (w : A) → [] ≡ us ++ w ∷ ws → ⊥
  not-none [] ws w e = cc e
  not-none (u ∷ us) ws w e = cc e

  pub same-head : (x y : A) (xs ys : List A) → x ∷ xs ≡ y ∷ ys → x ≡ y
  same-head x y xs ys e = cc e

  pub same-tail : (x y : A) (xs ys : List A) → x ∷ xs ≡ y ∷ ys → xs ≡ ys
  same-tail x y xs ys e = cc e

  cut-at : (vs us ws : List A) (v w : A) → vs ++ v ∷ [] ≡ us ++ w ∷ ws → IsCutAt vs us ws v w
  cut-at [] [] ws v w e = inl (refl, sym (same-head v w [] ws e), sym (same-tail v w [] ws e))
  cut-at [] (u ∷ us) ws v w e = absurd (not-none us ws w (same-tail v u [] (us ++ w ∷ ws) e))
  cut-at (x ∷ vs) [] ws v w e = inr (vs, sym (same-tail x w (vs ++ v ∷ []) ws e), ap (λ z. z ∷ vs) (same-head x w (vs ++ v ∷ []) ws e))
  cut-at (x ∷ vs) (u ∷ us) ws v w e = by (cut-at vs us ws v w (same-tail x u (vs ++ v ∷ []) (us ++ w ∷ ws) e))
    where
      head : x ≡ u
      head = same-head x u (vs ++ v ∷ []) (us ++ w ∷ ws) e

      by : IsCutAt vs us ws v w → IsCutAt (x ∷ vs) (u ∷ us) ws v w
      by (inl l) = inl (ap (λ z. z ∷ us) (sym head) ∙ ap (λ l. x ∷ l) l.0, l.1, l.2)
      by (inr r) = inr (r.0, r.1, ap (λ z. z ∷ vs) head ∙ ap (λ l. u ∷ l) r.2)

-- an event of an execution passes no limit of a log
pub fits-at : (program : Program) (print : List ℕ) (x : PolicyIntervals) (a b : Agenda) (p : SystemState) (us : List Transition) (v : Transition) (ws : List Transition) → Executes program print x a p (us ++ v ∷ ws) b → is_full_at program (last_state p us) v.trace.event.what ≡ false
fits-at program print x a b p [] v ws run = run.2.fits
fits-at program print x a b p (u ∷ us) v ws run = fits-at program print x (agenda_behind a run.0 u.trace) b u.state us v ws run.3

-- worlds on the way ------------------------------------------------------------------------------

module _ {D : Type 0} {d : Ghosts D} where
  pub keeps-self : (w : World D d) → KeepsAll w w
  keeps-self w = record {
    print = refl;
    count = refl;
    kept = λ i x y at is. let P : Component D d → Type 0 = λ z. KeepsDisk x z in subst P (same_Some x y (sym at ∙ is)) (kept-same d (disk_of x));
  }

  keeps-step : (mid new : World D d) (what : What) → KeepsDisks mid what new → KeepsAll mid new
  keeps-step mid new what disks = record { print = disks.print; count = disks.count; kept = disks.kept }

  module _ (program : Program) (old mid new : World D d) where
    -- from the end of a run on
    pub between-now : (vs : List Transition) → last_state (state_of old) vs ≡ state_of new → KeepsAll old new → IsMadeFor program (world_of new) → is_over new ≡ false → CrashLeavesWay program new [] None new → IsBetween program old new vs [] None new
    between-now vs ends disks made going rests = record {
      state = ends;
      disks = disks;
      later = keeps-self new;
      made = made;
      going = going;
      durable = files-durable new going;
      crash = rests;
    }

    -- the world in which an event is tried
    pub between-next : (vs : List Transition) (what : What) → last_state (state_of old) vs ≡ state_of mid → KeepsAll old mid → IsMadeFor program (world_of mid) → is_over mid ≡ false → KeepsDisks mid what new → CrashLeavesLogs program mid what new → IsBetween program old new vs [] (Some what) mid
    between-next vs what ends keeps made going disks crash = record {
      state = ends;
      disks = keeps;
      later = keeps-step mid new what disks;
      made = made;
      going = going;
      durable = files-durable mid going;
      crash = λ c x y at now. left-weaker d (disk_of x) (disk_of y) _ (IsOnWay program (state_of mid) [] (Some what) c) (λ image h. way-at program mid c x at (state_of mid) [] (Some what) image refl h) (crash c x y at now);
    }

    -- one before it
    between-tried : (us ws : List Transition) (what : What) (here : World D d) → last_state (state_of here) ws ≡ state_of mid → KeepsDisks mid what new → CrashLeavesLogs program mid what new → IsBetween program old mid us ws None here → IsBetween program old new us ws (Some what) here
    between-tried us ws what here ends disks crash m = record {
      state = m.state;
      disks = m.disks;
      later = keeps-more here mid new what m.later disks;
      made = m.made;
      going = m.going;
      durable = m.durable;
      crash = crash-further program here mid new ws what ends m.later m.crash crash;
    }

    -- the event is done
    between-taken : (us ws : List Transition) (v : Transition) (here : World D d) → IsBetween program old new us ws (Some v.trace.event.what) here → IsBetween program old new us (ws ++ v ∷ []) None here
    between-taken us ws v here m = record {
      state = m.state;
      disks = m.disks;
      later = m.later;
      made = m.made;
      going = m.going;
      durable = m.durable;
      crash = crash-taken program here new ws v m.crash;
    }

-- events on the way ------------------------------------------------------------------------------

module _ {D : Type 0} {d : Ghosts D} {K : Type 0} (k : sink.Ghosts K) (program : Program) (lines : List Transition → List (List ℕ)) (old mid new : World D d) (before : K) (vs : List Transition) (ends : last_state (state_of old) vs ≡ state_of mid) where
  leads-to : (us ws : List Transition) (here : World D d) → vs ≡ us ++ ws → last_state (state_of old) us ≡ state_of here → last_state (state_of here) ws ≡ state_of mid
  leads-to us ws here is state =
      ap (λ (s : SystemState). last_state s ws) (sym state) ∙ sym (last-behind (state_of old) us ws) ∙ ap (λ (l : List Transition). last_state (state_of old) l) (sym is) ∙ ends

  -- one more is tried
  pub outlast-tried : (what : What) → KeepsDisks mid what new → CrashLeavesLogs program mid what new → AllOutlast k program lines old mid before vs None → AllOutlast k program lines old new before vs (Some what)
  outlast-tried what disks crash all us ws v is =
      let x : Outlasts k program (lines us) old mid before us v ws None = all us ws v is in
      record {
        was = x.was;
        held = x.held;
        told = x.told;
        before_it = between-tried program old mid new us (v ∷ ws) what x.was (leads-to us (v ∷ ws) x.was is x.before_it.state) disks crash x.before_it;
        behind_it = between-tried program old mid new (us ++ v ∷ []) ws what x.held (leads-to (us ++ v ∷ []) ws x.held (is ∙ sym (append_assoc us (v ∷ []) ws)) x.behind_it.state) disks crash x.behind_it;
        printed = x.printed;
        disks = x.disks;
        within = x.within;
      }

  -- and done
  pub outlast-taken : (v : Transition) (now : K) → AllOutlast k program lines old new before vs (Some v.trace.event.what) → IsBetween program old new vs [] (Some v.trace.event.what) mid → IsBetween program old new (vs ++ v ∷ []) [] None new
      → Puts k (lines vs) before now → KeepsDisks mid v.trace.event.what new → CrashLeavesLogs program mid v.trace.event.what new → AllOutlast k program lines old new before (vs ++ v ∷ []) None
  outlast-taken v now all next last printed disks crash us ws w is = by (cut-at vs us ws v w is)
    where
      here : Outlasts k program (lines vs) old new before vs v [] None
      here = record {
        was = mid;
        held = new;
        told = now;
        before_it = between-taken program old mid new vs [] v mid next;
        behind_it = last;
        printed = printed;
        disks = disks;
        within = crash;
      }

      by : IsCutAt vs us ws v w → Outlasts k program (lines us) old new before us w ws None
      by (inl l) =
          subst (λ (z : List Transition). Outlasts k program (lines us) old new before us w z None) (sym l.2)
          (subst (λ (z : Transition). Outlasts k program (lines us) old new before us z [] None) (sym l.1)
          (subst (λ (z : List Transition). Outlasts k program (lines z) old new before z v [] None) (sym l.0) here))
      by (inr r) =
          let x : Outlasts k program (lines us) old new before us w r.0 (Some v.trace.event.what) = all us r.0 w r.2 in
          subst (λ (z : List Transition). Outlasts k program (lines us) old new before us w z None) (sym r.1) (record {
            was = x.was;
            held = x.held;
            told = x.told;
            before_it = between-taken program old mid new us (w ∷ r.0) v x.was x.before_it;
            behind_it = between-taken program old mid new (us ++ w ∷ []) r.0 v x.held x.behind_it;
            printed = x.printed;
            disks = x.disks;
            within = x.within;
          })

-- at the beginning no event was done
pub outlast-none : {D : Type 0} {d : Ghosts D} {K : Type 0} (k : sink.Ghosts K) (program : Program) (lines : List Transition → List (List ℕ)) (old new : World D d) (before : K) → AllOutlast k program lines old new before [] None
outlast-none k program lines old new before us ws v is = absurd (not-none us ws v is)
