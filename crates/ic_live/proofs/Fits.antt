-- A berth's event keeps what its program asks of its component, whatever the disk gives.
use Rattle.std.proofs.Common.{◌≡◌, refl, sym, ap, subst, ◌∙◌, ℕ, zero, suc, Bool, true, false, cond, List, [], ◌∷◌, map, filter, Option, Some, None, option_map}
use Rattle.std.specs.Prelude.{slice_get, slice_set}
use Rattle.std.specs.List.{AllByRecursion}
use Rattle.std.proofs.lemmas.Option.{same_Some}
use Rattle.ic_base.specs.declared.events.Trace.{Trace}
use Rattle.ic_base.specs.declared.messages.ComId.{ComId}
use Rattle.ic_base.specs.declared.messages.Output.{Output}
use Rattle.ic_base.specs.declared.messages.Packet.{Packet}
use Rattle.ic_base.specs.declared.scenario.Component.{Component}
use Rattle.ic_base.specs.declared.scenario.Program.{Program}
use Rattle.def_facts.specs.Playable.{IsPlayable}
use Rattle.def_live.specs.Turns.{Choice, Unlisted, Brings, Lists, IsOwn, alone, brings, coms_from, event_of}
use Rattle.def_run.specs.SystemStates.{has_disk}
use Rattle.def_step.specs.Pcom.{Pcom}
use Rattle.def_step.specs.World.{Node, Runs, External, After, node_at, first_node, first_world}
use Rattle.ic_turn.specs.Standings.{Standing, Leads, DoesOne}
use Rattle.law_found.proofs.First.{node-at}
use Rattle.law_settle.specs.Kept.{IsWorldPutToKept, GoesToKept}
use Rattle.law_settle.specs.Represented.{IsWorldRepresented, IsRepresented}
use Rattle.law_settle.proofs.Reaching.{first_world_puts_to_kept, events_put_to_kept}
use Rattle.law_settle.proofs.Worlds.{first_world_is_represented, events_keep_represented}
use Rattle.ic_live.specs.Berthed.{berthed}
use Rattle.ic_live.specs.Carrying.{MayDo}
use Rattle.ic_live.specs.Standings.{FitsProgram}

-- each has a disk
pub berthed-has : (program : Program) (k : ℕ) (c : ComId) → slice_get (berthed program) k ≡ Some c → has_disk program c ≡ true
berthed-has program k c at = by (coms_from 0 program.components) k at
  where
    by : (xs : List ComId) (k : ℕ) → slice_get (filter (has_disk program) xs) k ≡ Some c → has_disk program c ≡ true
    by [] k e = absurd (cc e)
    by (x ∷ xs) k e = test (has_disk program x) refl k e (by xs)
      where
        test : (b : Bool) → has_disk program x ≡ b → (k : ℕ) → slice_get (cond b (x ∷ filter (has_disk program) xs) (filter (has_disk program) xs)) k ≡ Some c
            → ((j : ℕ) → slice_get (filter (has_disk program) xs) j ≡ Some c → has_disk program c ≡ true) → has_disk program c ≡ true
        test false is k e more = more k e
        test true is zero e more = subst (λ d. has_disk program d ≡ true) (same_Some x c e) is
        test true is (suc j) e more = more j e

-- in the world of a component alone each Pcom is that one
runs-alone : (program : Program) (c d : ComId) (node : Node) (x : Choice) (shown : List Output) (p : Pcom) → node_at (alone program c node x shown) d ≡ Some (Runs p) → (c ≡ d) × (node ≡ Runs p)
runs-alone program c d node x shown p e = let h = at program.components c.0 d.0 e in (ap named h.0, h.1)
  where
    named : ℕ → ComId
    named i = record { 0 = i }

    outside : (ys : List Component) (j : ℕ) → slice_get (map (λ (y : Component). External) ys) j ≡ Some (Runs p) → ⊥
    outside [] j e = cc e
    outside (y ∷ ys) zero e = cc (same_Some External (Runs p) e)
    outside (y ∷ ys) (suc j) e = outside ys j e

    at : (ys : List Component) (i j : ℕ) → slice_get (slice_set (map (λ (y : Component). External) ys) i node) j ≡ Some (Runs p) → (i ≡ j) × (node ≡ Runs p)
    at [] i j e = absurd (cc e)
    at (y ∷ ys) zero zero e = (refl, same_Some node (Runs p) e)
    at (y ∷ ys) zero (suc j) e = absurd (outside ys j e)
    at (y ∷ ys) (suc i) zero e = absurd (outside (y ∷ ys) zero e)
    at (y ∷ ys) (suc i) (suc j) e = let h = at ys i j e in (ap suc h.0, h.1)

module _ (program : Program) (print : List ℕ) (c : ComId) (tells : Type 0) (play : IsPlayable program) (has : has_disk program c ≡ true) where
  -- what is brought goes to it
  brought-kept : (x : Choice) → IsOwn c x → AllByRecursion (GoesToKept program) (brings x)
  brought-kept (Unlisted what) own = tt
  brought-kept (Brings p) own = (subst (λ d. has_disk program d ≡ true) (sym own) has, tt)
  brought-kept (Lists e) own = tt

  leads-fit : (x : Choice) (s : Standing) (node : Node) (file : List ℕ) (t : Trace) → IsOwn c x → FitsProgram program c s.node → Leads program print c x tells s node file t → FitsProgram program c node
  leads-fit x s node file t own fits l =
      let w = alone program c s.node x s.shown in
      let a : After = record { world = l.behind; trace = t } in
      let represented : IsWorldRepresented program w = λ d p e. let h = runs-alone program c d s.node x s.shown p e in subst (λ z. IsRepresented program z p) h.0 (fits p h.1).0 in
      let puts : IsWorldPutToKept program w = record { packets = brought-kept x own; components = λ d p e. (fits p (runs-alone program c d s.node x s.shown p e).1).1 } in
      λ p is.
      let there : node_at l.behind c ≡ Some (Runs p) = l.leads ∙ ap (λ n. Some n) is in (
        events_keep_represented program w (event_of c x) l.outcome a play represented l.happens c p there,
        (events_put_to_kept program w (event_of c x) l.outcome a play represented puts l.happens).components c p there,
      )

  -- behind the event of a choice, if there is one
  pub does-fit : (o : Option Choice) (puts : List Packet) (s r : Standing) → MayDo c o → DoesOne program print c o tells puts s r → FitsProgram program c s.node → FitsProgram program c r.node
  does-fit None puts s r may d fits = subst (λ (z : Standing). FitsProgram program c z.node) (sym d.0) fits
  does-fit (Some x) puts s r may d fits = subst (λ (z : Standing). FitsProgram program c z.node) (sym d.4) (leads-fit x s d.0 d.1 d.2 may.0 fits d.3)

-- where it begins
pub first-fits : (program : Program) (c : ComId) (declared : Component) (node : Node) → slice_get program.components c.0 ≡ Some declared → node ≡ first_node program c declared.kind → FitsProgram program c node
first-fits program c declared node at is p runs =
    let there : node_at (first_world program) c ≡ Some (Runs p) = node-at program c ∙ ap (option_map (λ (d : Component). first_node program c d.kind)) at ∙ ap (λ n. Some n) (sym is ∙ runs) in (
      first_world_is_represented program c p there,
      (first_world_puts_to_kept program).components c p there,
    )
