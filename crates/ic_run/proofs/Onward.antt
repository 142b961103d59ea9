-- Transitions that lead on from where others led to.
use Rattle.std.proofs.Common.{◌≡◌, ◌∙◌, sym, ap, subst, refl, ℕ, ◌+◌, List, [], ◌∷◌, ◌++◌, append_assoc, arith, Option, Some, None, ◌⊎◌, inl, inr}
use Rattle.std.specs.Prelude.{slice_get, min}
use Rattle.ic_base.specs.declared.messages.ComId.{ComId}
use Rattle.ic_base.specs.declared.events.What.{What}
use Rattle.ic_base.specs.declared.scenario.Program.{Program}
use Rattle.def_run.specs.CoreSteps.{forced_of}
use Rattle.def_run.specs.Executions.{Agenda, received_in}
use Rattle.def_run.specs.Reports.{played_in}
use Rattle.def_run.specs.SystemStates.{SystemState, Transition, last_state, file_of}
use Rattle.def_step.specs.Settle.{PolicyIntervals}
use Rattle.def_step.specs.World.{node_at}
use Rattle.ic_disk.specs.declared.disk.Disk.{Ghosts}
use Rattle.ic_disk.specs.declared.sink.Sink as sink
use Rattle.ic_gate.specs.RecordFiles.{IsBeforeOrBehind}
use Rattle.ic_node.specs.Views.{disk_of}
use Rattle.ic_node.specs.declared.component.Component.{Component}
use Rattle.ic_report.specs.Outputs.{Puts}
use Rattle.ic_report.proofs.Outputs.{puts_then}
use Rattle.ic_run.specs.Running.{coming, added_by, IsOnWay, AsksNone, CrashLeavesWay, KeepsAll, Goes, Leads, IsBetween, Outlasts}
use Rattle.ic_world.specs.Acting.{GREATEST}
use Rattle.ic_world.specs.Views.{components_of, state_of, received_of, played_of}
use Rattle.ic_world.specs.declared.world.World.{World}
use Rattle.ic_run.proofs.Lasting.{same-head, same-tail}
use Rattle.ic_run.proofs.More.{last-behind}
use Rattle.ic_run.proofs.Ways.{none-added, kept-then, left-weaker, left-then}
use Rattle.ic_run.proofs.Worlds.{between, still-more}

-- lists of transitions ------------------------------------------------------------------------------

pub received-behind : (program : Program) (p : SystemState) (us ws : List Transition) → received_in program p (us ++ ws) ≡ received_in program p us + received_in program (last_state p us) ws
received-behind program p [] ws = omega arith
received-behind program p (u ∷ us) ws = omega (arith, received-behind program u.state us ws)

pub played-behind : (p : SystemState) (us ws : List Transition) → played_in p (us ++ ws) ≡ played_in p us + played_in (last_state p us) ws
played-behind p [] ws = omega arith
played-behind p (u ∷ us) ws = omega (arith, played-behind u.state us ws)

-- what no event asks for, none of either part does
pub asks-behind : (c : ComId) (p : SystemState) (us ws : List Transition) → AsksNone c p (us ++ ws) → AsksNone c p us × AsksNone c (last_state p us) ws
asks-behind c p [] ws h = (tt, h)
asks-behind c p (u ∷ us) ws h = let rest = asks-behind c u.state us ws h.1 in ((h.0, rest.0), rest.1)

-- what a crash leaves --------------------------------------------------------------------------------

module _ (program : Program) (p : SystemState) (us ws : List Transition) (tried : Option What) (c : ComId) (image : List ℕ) where
  -- on the way of the first is on the way of all
  pub way-first : IsOnWay program p us None c image → IsOnWay program p (us ++ ws) tried c image
  way-first h = record {
    front = h.front;
    back = h.back ++ ws;
    is = ap (λ (l : List Transition). l ++ ws) h.is ∙ append_assoc h.front h.back ws;
    reads = by h.back h.reads;
  }
    where
      s : SystemState
      s = last_state p h.front

      by : (back : List Transition) → IsBeforeOrBehind (file_of s c) (forced_of (node_at s.world c)) (added_by program s c (coming back None)) image → IsBeforeOrBehind (file_of s c) (forced_of (node_at s.world c)) (added_by program s c (coming (back ++ ws) tried)) image
      by [] r = none-added (file_of s c) (forced_of (node_at s.world c)) (added_by program s c (coming ws tried)) image r
      by (v ∷ back) r = r

  -- and so is what is on the way of those behind them
  pub way-second : IsOnWay program (last_state p us) ws tried c image → IsOnWay program p (us ++ ws) tried c image
  way-second h =
      let R : SystemState → Type 0 = λ s. IsBeforeOrBehind (file_of s c) (forced_of (node_at s.world c)) (added_by program s c (coming h.back tried)) image in
      record {
        front = us ++ h.front;
        back = h.back;
        is = ap (λ (l : List Transition). us ++ l) h.is ∙ sym (append_assoc us h.front h.back);
        reads = subst R (sym (last-behind p us h.front)) h.reads;
      }

-- worlds ---------------------------------------------------------------------------------------------

module _ {D : Type 0} {d : Ghosts D} where
  pub keeps-then : (old mid new : World D d) → KeepsAll old mid → KeepsAll mid new → KeepsAll old new
  keeps-then old mid new first second = record {
    print = second.print ∙ first.print;
    count = second.count ∙ first.count;
    kept = λ k x y at now.
        let z = between old mid k x first.count at in
        kept-then d (disk_of x) (disk_of z.0) (disk_of y) (first.kept k x z.0 at z.1) (second.kept k z.0 y z.1 now);
  }

  pub crash-then : (program : Program) (old mid new : World D d) (us ws : List Transition) (tried : Option What) → last_state (state_of old) us ≡ state_of mid → KeepsAll old mid → CrashLeavesWay program old us None mid → CrashLeavesWay program mid ws tried new → CrashLeavesWay program old (us ++ ws) tried new
  crash-then program old mid new us ws tried ends keeps first second c x y at now =
      let z = between old mid c.0 x keeps.count at in
      let P : SystemState → Type 0 = λ s. (image : List ℕ) → IsOnWay program s ws tried c image → IsOnWay program (state_of old) (us ++ ws) tried c image in
      let later : P (state_of mid) = subst P ends (λ image h. way-second program (state_of old) us ws tried c image h) in
      left-then d (disk_of x) (disk_of z.0) (disk_of y) (IsOnWay program (state_of old) (us ++ ws) tried c) (keeps.kept c.0 x z.0 at z.1)
      (left-weaker d (disk_of x) (disk_of z.0) (IsOnWay program (state_of old) us None c) (IsOnWay program (state_of old) (us ++ ws) tried c) (λ image h. way-first program (state_of old) us ws tried c image h) (first c x z.0 at z.1))
      (left-weaker d (disk_of z.0) (disk_of y) (IsOnWay program (state_of mid) ws tried c) (IsOnWay program (state_of old) (us ++ ws) tried c) later (second c z.0 y z.1 now))

  pub leads-of : {program : Program} {x : PolicyIntervals} {a b : Agenda} {old new : World D d} {vs : List Transition} → Goes program x a old vs b new → Leads program old vs new
  leads-of g = record { ends = g.ends; disks = g.disks; others = g.others; crash = g.crash; received = g.received; played = g.played; made = g.made; going = g.going }

  module _ (program : Program) (old mid new : World D d) (us ws : List Transition) (g : Leads program old us mid) (h : Leads program mid ws new) where
    others-then : (n : ComId) → AsksNone n (state_of old) (us ++ ws) → (k m : Component D d) → slice_get (components_of old) n.0 ≡ Some k → slice_get (components_of new) n.0 ≡ Some m → disk_of m ≡ disk_of k
    others-then n none k m at now =
        let asks = asks-behind n (state_of old) us ws none in
        let z = between old mid n.0 k g.disks.count at in
        let P : SystemState → Type 0 = λ s. AsksNone n s ws in
        h.others n (subst P g.ends asks.1) z.0 m z.1 now ∙ g.others n asks.0 k z.0 at z.1

    received-then : received_of new ≡ received_of old + received_in program (state_of old) (us ++ ws)
    received-then =
        let P : SystemState → ℕ = λ s. received_in program s ws in
        omega (arith, h.received, g.received, received-behind program (state_of old) us ws, ap P g.ends)

    played-then : played_of new ≡ min (played_of old + played_in (state_of old) (us ++ ws)) GREATEST
    played-then =
        let P : SystemState → ℕ = λ s. played_in s ws in
        let all : played_in (state_of old) (us ++ ws) ≡ played_in (state_of old) us + played_in (state_of mid) ws = played-behind (state_of old) us ws ∙ ap (λ n. played_in (state_of old) us + n) (ap P g.ends) in
        still-more (played_of old) (played_of mid) (played_of new) (played_in (state_of old) us) (played_in (state_of mid) ws) GREATEST g.played h.played ∙ ap (λ n. min (played_of old + n) GREATEST) (sym all)

    pub leads-then : Leads program old (us ++ ws) new
    leads-then = record {
      ends = last-behind (state_of old) us ws ∙ ap (λ s. last_state s ws) g.ends ∙ h.ends;
      disks = keeps-then old mid new g.disks h.disks;
      others = others-then;
      crash = crash-then program old mid new us ws None g.ends g.disks g.crash h.crash;
      received = received-then;
      played = played-then;
      made = h.made;
      going = h.going;
    }

-- what was told ----------------------------------------------------------------------------------------

-- one of two lists in a row, cut at one of their members: it is of the first, or of the second
pub cut-of : {A : Type 0} (us ws ts vs : List A) (v : A) → us ++ ws ≡ ts ++ v ∷ vs → ((rest : List A) × (us ≡ ts ++ v ∷ rest) × (vs ≡ rest ++ ws)) ⊎ ((rest : List A) × (ts ≡ us ++ rest) × (ws ≡ rest ++ v ∷ vs))
cut-of [] ws ts vs v e = inr (ts, refl, e)
cut-of (u ∷ us) ws [] vs v e = inl (us, ap (λ z. z ∷ us) (same-head u v (us ++ ws) vs e), sym (same-tail u v (us ++ ws) vs e))
cut-of {A} (u ∷ us) ws (t ∷ ts) vs v e = by (cut-of us ws ts vs v (same-tail u t (us ++ ws) (ts ++ v ∷ vs) e))
  where
    head : u ≡ t
    head = same-head u t (us ++ ws) (ts ++ v ∷ vs) e

    by : ((rest : List A) × (us ≡ ts ++ v ∷ rest) × (vs ≡ rest ++ ws)) ⊎ ((rest : List A) × (ts ≡ us ++ rest) × (ws ≡ rest ++ v ∷ vs)) → ((rest : List A) × (u ∷ us ≡ t ∷ ts ++ v ∷ rest) × (vs ≡ rest ++ ws)) ⊎ ((rest : List A) × (t ∷ ts ≡ u ∷ us ++ rest) × (ws ≡ rest ++ v ∷ vs))
    by (inl l) = inl (l.0, ap (λ z. z ∷ us) head ∙ ap (λ z. t ∷ z) l.1, l.2)
    by (inr r) = inr (r.0, ap (λ z. t ∷ z) r.1 ∙ ap (λ z. z ∷ (us ++ r.0)) (sym head), r.2)

module _ {D : Type 0} {d : Ghosts D} (program : Program) (old mid new : World D d) (us ws : List Transition) (tried : Option What) (ends : last_state (state_of old) us ≡ state_of mid) (keeps : KeepsAll old mid) (later : KeepsAll mid new) (way : CrashLeavesWay program mid ws tried new) where
  leads : (ts vs : List Transition) (here : World D d) → us ≡ ts ++ vs → last_state (state_of old) ts ≡ state_of here → last_state (state_of here) vs ≡ state_of mid
  leads ts vs here is state =
      ap (λ (s : SystemState). last_state s vs) (sym state) ∙ sym (last-behind (state_of old) ts vs) ∙ ap (λ (l : List Transition). last_state (state_of old) l) (sym is) ∙ ends

  pub between-first : (ts vs : List Transition) (here : World D d) → us ≡ ts ++ vs → IsBetween program old mid ts vs None here → IsBetween program old new ts (vs ++ ws) tried here
  between-first ts vs here is m = record {
    state = m.state;
    disks = m.disks;
    later = keeps-then here mid new m.later later;
    made = m.made;
    going = m.going;
    durable = m.durable;
    crash = crash-then program here mid new vs ws tried (leads ts vs here is m.state) m.later m.crash way;
  }

  pub between-second : (ts vs : List Transition) (here : World D d) → IsBetween program mid new ts vs tried here → IsBetween program old new (us ++ ts) vs tried here
  between-second ts vs here m = record {
    state = last-behind (state_of old) us ts ∙ ap (λ (s : SystemState). last_state s ts) ends ∙ m.state;
    disks = keeps-then old mid here keeps m.disks;
    later = m.later;
    made = m.made;
    going = m.going;
    durable = m.durable;
    crash = m.crash;
  }

  module _ {K : Type 0} (k : sink.Ghosts K) (pieces : List (List ℕ)) (before : K) (ts vs : List Transition) (v : Transition) where
    -- what outlasts a crash in the first part does so in all
    pub outlasts-first : us ≡ ts ++ v ∷ vs → Outlasts k program pieces old mid before ts v vs None → Outlasts k program pieces old new before ts v (vs ++ ws) tried
    outlasts-first is x = record {
      was = x.was;
      held = x.held;
      told = x.told;
      before_it = between-first ts (v ∷ vs) x.was is x.before_it;
      behind_it = between-first (ts ++ v ∷ []) vs x.held (is ∙ sym (append_assoc ts (v ∷ []) vs)) x.behind_it;
      printed = x.printed;
      disks = x.disks;
      within = x.within;
    }

    -- and in the second, behind the pieces of the first
    pub outlasts-second : (front : List (List ℕ)) (now : K) → Puts k front before now → Outlasts k program pieces mid new now ts v vs tried → Outlasts k program (front ++ pieces) old new before (us ++ ts) v vs tried
    outlasts-second front now printed x = record {
      was = x.was;
      held = x.held;
      told = x.told;
      before_it = between-second ts (v ∷ vs) x.was x.before_it;
      behind_it = subst (λ (z : List Transition). IsBetween program old new z vs tried x.held) (sym (append_assoc us ts (v ∷ []))) (between-second (ts ++ v ∷ []) vs x.held x.behind_it);
      printed = puts_then k front pieces before now x.told printed x.printed;
      disks = x.disks;
      within = x.within;
    }
