-- Behind the joins, where the disks tell their bytes, the world is that of the berths.
use Rattle.std.proofs.Common.{◌≡◌, ◌∙◌, sym, ap, subst, refl, ℕ, suc, Bool, true, false, cond, inl, inr, ◌⊎◌, List, [], ◌∷◌, ◌++◌, length, map, filter, flat_map, arith, Option, Some, None, option_map}
use Rattle.std.specs.Prelude.{slice_get, unwrap_or, IsFalse, ◌||◌}
use Rattle.std.proofs.lemmas.Bool.{both_ways}
use Rattle.std.proofs.lemmas.List.{length-map}
use Rattle.std.proofs.lemmas.Option.{same_Some}
use Rattle.ic_base.specs.declared.events.Event.{Event}
use Rattle.ic_base.specs.declared.messages.ComId.{ComId}
use Rattle.ic_base.specs.declared.messages.Kind.{Kind}
use Rattle.ic_base.specs.declared.messages.Kind.TheVariants as kinds
use Rattle.ic_base.specs.declared.scenario.Component.{Component as Declared}
use Rattle.ic_base.specs.declared.scenario.Program.{Program}
use Rattle.ic_base.specs.Programs.{declares, is_pcom, is_tcom}
use Rattle.def_facts.specs.World.{is_of_kind, kind_of, shown_by}
use Rattle.def_live.specs.Facts.{Part, LocalFacts}
use Rattle.def_live.specs.Serial.{left_from, events_left}
use Rattle.def_live.specs.Turns.{Berth, coms_from}
use Rattle.def_run.specs.SystemStates.{KeepsLog, KeepsLogs, has_disk}
use Rattle.def_step.specs.World.{World, Node, Runs, Serves, Down, External}
use Rattle.ic_disk.specs.declared.disk.Disk.{Ghosts}
use Rattle.ic_node.specs.Views.{node_of, com_of, file_of}
use Rattle.ic_node.specs.declared.component.Component.{Component}
use Rattle.ic_live.specs.Berthed.{berthed}
use Rattle.ic_live.specs.Ended.{AreReturned, AreJoined}
use Rattle.ic_live.proofs.Peers.{berthed-apart, berthed-has, place-or_none}
use Rattle.ic_live.specs.Ends.{is_among, AreApart}
use Rattle.ic_turn.proofs.Places.{there}
use Rattle.ic_turn.specs.Progresses.{left_of}
use Rattle.ic_turn.specs.declared.progress.Progress.{Progress}
use Rattle.ic_world.specs.Assembling.{Assembles}
use Rattle.ic_world.specs.Views.{world_of, state_of}
use Rattle.ic_world.specs.declared.world.World.{World as Made}
use Rattle.ic_world.proofs.Lists.{get-map, get-within, none-past}
use Rattle.ic_joins.specs.Assembling.{StandsJoined}
use Rattle.ic_joins.specs.Placing.{IsPlaced, ArePlaced}
use Rattle.ic_joins.specs.Showing.{showings_of}
use Rattle.ic_joins.proofs.Assembled.{inside-com, none-declared}
use Rattle.ic_joins.proofs.Shown.{shown-none, shown-one}

-- an Xcom is outside
xcom-outside : (node : Node) → is_of_kind (Some kinds.Xcom) (Some node) ≡ true → node ≡ External
xcom-outside External e = refl
xcom-outside (Runs p) e = absurd (cc e)
xcom-outside (Serves t) e = absurd (cc e)
xcom-outside (Down log) e = absurd (cc e)

-- one that has no disk is an Xcom
xcom-of : (program : Program) (c : ComId) (declared : Declared) → slice_get program.components c.0 ≡ Some declared → has_disk program c ≡ false → declared.kind ≡ kinds.Xcom
xcom-of program c declared at none = by declared.kind refl (sym (ap (λ (o : Option Declared). declares (λ x. is_pcom x.kind) o || declares (λ x. is_tcom x.kind) o) at) ∙ none)
  where
    by : (k : Kind) → declared.kind ≡ k → (is_pcom declared.kind || is_tcom declared.kind) ≡ false → declared.kind ≡ kinds.Xcom
    by kinds.Xcom is e = is
    by kinds.Pcom is e = absurd (cc (is, e))
    by kinds.Tcom is e = absurd (cc (is, e))

-- and shows nothing
outside-shown : (program : Program) (c : ComId) (declared : Declared) → slice_get program.components c.0 ≡ Some declared → declared.kind ≡ kinds.Xcom → (x : Part) (here : ℕ) → LocalFacts program c x here → x.showings ≡ []
outside-shown program c declared at is x here facts = (facts.other (no-kind is_pcom refl) (no-kind is_tcom refl)).1
  where
    no-kind : (test : Kind → Bool) → test kinds.Xcom ≡ false → IsFalse (declares (λ (z : Declared). test z.kind) (slice_get program.components c.0))
    no-kind test e = ap (declares (λ (z : Declared). test z.kind)) at ∙ ap test is ∙ e

-- what those without a disk left is nothing
left-berthed : (has : ComId → Bool) (berths : ComId → Berth) (cs : List ComId) → ((c : ComId) → has c ≡ false → (berths c).left ≡ []) → left_from berths cs ≡ left_from berths (filter has cs)
left-berthed has berths [] none = refl
left-berthed has berths (c ∷ cs) none = by (has c) refl (left-berthed has berths cs none)
  where
    by : (b : Bool) → has c ≡ b → left_from berths cs ≡ left_from berths (filter has cs) → (berths c).left ++ left_from berths cs ≡ left_from berths (cond b (c ∷ filter has cs) (filter has cs))
    by true is more = ap (λ l. (berths c).left ++ l) more
    by false is more = ap (λ l. l ++ left_from berths cs) (none c is) ∙ more

-- each left what its berth left
left-each : (berths : ComId → Berth) (cs : List ComId) (ps : List Progress) → length cs ≡ length ps → ((k : ℕ) (c : ComId) (p : Progress) → slice_get cs k ≡ Some c → slice_get ps k ≡ Some p → left_of p ≡ (berths c).left) → flat_map left_of ps ≡ left_from berths cs
left-each berths [] [] l each = refl
left-each berths (c ∷ cs) (p ∷ ps) l each = ap (λ es. es ++ flat_map left_of ps) (each 0 c p refl refl) ∙ ap (λ es. (berths c).left ++ es) (left-each berths cs ps (omega (arith, l)) (λ k. each (suc k)))
left-each berths [] (p ∷ ps) l each = absurd (omega (arith, l))
left-each berths (c ∷ cs) [] l each = absurd (omega (arith, l))

-- components in their places are those of the berths
coms-same : {A : Type 0} (which : A → ComId) (xs : List A) (cs : List ComId) → length xs ≡ length cs → ((k : ℕ) (x : A) → slice_get xs k ≡ Some x → slice_get cs k ≡ Some (which x)) → map which xs ≡ cs
coms-same which [] [] l at = refl
coms-same which (x ∷ xs) (c ∷ cs) l at = ap (λ z. z ∷ map which xs) (sym (same_Some c (which x) (at 0 x refl))) ∙ ap (λ l. c ∷ l) (coms-same which xs cs (omega (arith, l)) (λ k. at (suc k)))
coms-same which [] (c ∷ cs) l at = absurd (omega (arith, l))
coms-same which (x ∷ xs) [] l at = absurd (omega (arith, l))

module _ {D : Type 0} {d : Ghosts D} (program : Program) (print : List ℕ) (plan : ComId → List Event) (xs : List (Component D d)) (ps : List Progress) (back : AreReturned program print xs ps) (joined : AreJoined program print plan xs ps)
    (all : List (Component D d)) (placed : ArePlaced program xs all) (w : Made D d) (made : Assembles program print all (showings_of xs ps) w) where
  coms : map (λ (x : Component D d). com_of x) xs ≡ berthed program
  coms = coms-same (λ (x : Component D d). com_of x) xs (berthed program) back.one_each (λ k x e. (back.going k x e).at_place)

  -- the progress in a place
  progress-at : (j : ℕ) (x : Component D d) → slice_get xs j ≡ Some x → (p : Progress) × (slice_get ps j ≡ Some p)
  progress-at j x e = there ps xs j x (sym back.progresses) e

  not-among : (c : ComId) → has_disk program c ≡ false → is_among (berthed program) c ≡ false
  not-among c none = by (place-or_none (berthed program) c)
    where
      by : ((k : ℕ) × (slice_get (berthed program) k ≡ Some c)) ⊎ (is_among (berthed program) c ≡ false) → is_among (berthed program) c ≡ false
      by (inl k) = absurd (both_ways (has_disk program c) none (berthed-has program k.0 c k.1))
      by (inr e) = e

  -- the berth of one outside has no node with a disk
  outside-node : (c : ComId) (declared : Declared) → slice_get program.components c.0 ≡ Some declared → has_disk program c ≡ false → (joined.berths c).part.node ≡ External
  outside-node c declared at none =
      let kind : kind_of program c ≡ Some declared.kind = ap (option_map (λ (x : Declared). x.kind)) at in
      let of = (joined.closed.keep c declared.kind kind).facts.facts.kind in
      let P : Option Kind → Type 0 = λ k. is_of_kind k (Some (joined.berths c).part.node) ≡ true in
      xcom-outside (joined.berths c).part.node (subst P (kind ∙ ap (λ k. Some k) (xcom-of program c declared at none)) of)

  node-so : (c : ComId) (declared : Declared) (x : Component D d) → slice_get program.components c.0 ≡ Some declared → IsPlaced program xs c x → node_of x ≡ (joined.berths c).part.node
  node-so c declared x at (inl h) =
      let p = progress-at h.0 x h.2 in
      let of = joined.of h.0 x p.0 h.2 p.1 in
      let own = inside-com program print xs ps back all placed c x h.0 h.1 h.2 in
      sym (ap (λ (b : Berth). b.part.node) (ap joined.berths (sym own) ∙ of.is))
  node-so c declared x at (inr h) = h.1.node ∙ sym (outside-node c declared at h.0)

  nodes : (world_of w).nodes ≡ map (λ x. node_of x) all
  nodes = ap (λ (z : World). z.nodes) made.world

  node-at-so : (c : ComId) → slice_get (world_of w).nodes c.0 ≡ option_map (λ (e : Declared). (joined.berths c).part.node) (slice_get program.components c.0)
  node-at-so c = ap (λ l. slice_get l c.0) nodes ∙ get-map (λ x. node_of x) all c.0 ∙ by (slice_get all c.0) refl (slice_get program.components c.0) refl
    where
      by : (o : Option (Component D d)) → slice_get all c.0 ≡ o → (e : Option Declared) → slice_get program.components c.0 ≡ e → option_map (λ x. node_of x) (slice_get all c.0) ≡ option_map (λ (e : Declared). (joined.berths c).part.node) e
      by None at None e = ap (option_map (λ x. node_of x)) at
      by None at (Some declared) e = absurd (let f : None ≡ Some declared = sym (none-declared program print xs ps back all placed c at) ∙ e in cc f)
      by (Some x) at None e = absurd (omega (arith, none-past program.components c.0 e, placed.count, get-within all c.0 x at))
      by (Some x) at (Some declared) e = ap (option_map (λ x. node_of x)) at ∙ ap (λ n. Some n) (node-so c declared x e (placed.each c x at))

  -- one outside showed nothing
  none-shown : (c : ComId) → has_disk program c ≡ false → (o : Option Declared) → slice_get program.components c.0 ≡ o → (joined.berths c).part.showings ≡ []
  none-shown c none None at = (joined.closed.nobody c (ap (option_map (λ (x : Declared). x.kind)) at)).showings
  none-shown c none (Some declared) at =
      let kind : kind_of program c ≡ Some declared.kind = ap (option_map (λ (x : Declared). x.kind)) at in
      outside-shown program c declared at (xcom-of program c declared at none) (joined.berths c).part (joined.closed.here c) (joined.closed.keep c declared.kind kind).facts.facts

  shown-outside : (c : ComId) → has_disk program c ≡ false → shown_by c (showings_of xs ps) ≡ (joined.berths c).part.showings
  shown-outside c none = shown-none c xs ps (ap (λ l. is_among l c) coms ∙ not-among c none) ∙ sym (none-shown c none (slice_get program.components c.0) refl)

  shown-so : (c : ComId) → shown_by c (showings_of xs ps) ≡ (joined.berths c).part.showings
  shown-so c = by (slice_get all c.0) refl
    where
      placed-so : (x : Component D d) → IsPlaced program xs c x → shown_by c (showings_of xs ps) ≡ (joined.berths c).part.showings
      placed-so x (inl h) =
          let p = progress-at h.0 x h.2 in
          let own = inside-com program print xs ps back all placed c x h.0 h.1 h.2 in
          let of = joined.of h.0 x p.0 h.2 p.1 in
          shown-one c xs ps h.0 x p.0 (subst AreApart (sym coms) (berthed-apart program)) h.2 p.1 own ∙ sym (ap (λ (b : Berth). b.part.showings) (ap joined.berths (sym own) ∙ of.is))
      placed-so x (inr h) = shown-outside c h.0

      by : (o : Option (Component D d)) → slice_get all c.0 ≡ o → shown_by c (showings_of xs ps) ≡ (joined.berths c).part.showings
      by None at = shown-outside c (ap (λ (o : Option Declared). declares (λ x. is_pcom x.kind) o || declares (λ x. is_tcom x.kind) o) (none-declared program print xs ps back all placed c at))
      by (Some x) at = placed-so x (placed.each c x at)

  kept-so : (c : ComId) (o : Option (Component D d)) → slice_get all c.0 ≡ o → KeepsLog print c (unwrap_or (option_map (λ x. file_of x) o) []) (option_map (λ x. node_of x) o)
  kept-so c None at = tt
  kept-so c (Some x) at = by (placed.each c x at)
    where
      by : IsPlaced program xs c x → KeepsLog print c (file_of x) (Some (node_of x))
      by (inl h) = subst (λ z. KeepsLog print z (file_of x) (Some (node_of x))) (inside-com program print xs ps back all placed c x h.0 h.1 h.2) ((back.going h.0 x h.2).logs (joined.told h.0 x h.2))
      by (inr h) = subst (λ n. KeepsLog print c (file_of x) (Some n)) (sym h.1.node) tt

  keeps-logs : KeepsLogs print (state_of w)
  keeps-logs c =
      let P : List (Component D d) × List Node → Type 0 = λ z. KeepsLog print c (unwrap_or (slice_get (map (λ x. file_of x) z.0) c.0) []) (slice_get z.1 c.0) in
      subst P (λ j. (sym made.same j, sym nodes j))
      (subst (λ o. KeepsLog print c (unwrap_or o []) (slice_get (map (λ x. node_of x) all) c.0)) (sym (get-map (λ x. file_of x) all c.0))
      (subst (λ o. KeepsLog print c (unwrap_or (option_map (λ x. file_of x) (slice_get all c.0)) []) o) (sym (get-map (λ x. node_of x) all c.0)) (kept-so c (slice_get all c.0) refl)))

  left-so : flat_map left_of ps ≡ events_left program joined.berths
  left-so = left-each joined.berths (berthed program) ps (sym (back.progresses ∙ back.one_each)) each ∙ sym (left-berthed (has_disk program) joined.berths (coms_from 0 program.components) joined.outside)
    where
      each : (k : ℕ) (c : ComId) (p : Progress) → slice_get (berthed program) k ≡ Some c → slice_get ps k ≡ Some p → left_of p ≡ (joined.berths c).left
      each k c p at has =
          let x = there xs (berthed program) k c (sym back.one_each) at in
          let own = inside-com program print xs ps back all placed c x.0 k at x.1 in
          let of = joined.of k x.0 p x.1 has in
          sym (ap (λ (b : Berth). b.left) (ap joined.berths (sym own) ∙ of.is))

  pub stands-joined : StandsJoined program print plan xs ps joined w
  stands-joined = record {
    are = record {
      one_each = ap (λ (l : List Node). length l) nodes ∙ length-map all (λ x. node_of x) ∙ placed.count;
      node = node-at-so;
      shown = λ c. ap (λ (z : World). shown_by c z.showings) made.world ∙ shown-so c;
    };
    world = λ i. record { nodes = (world_of w).nodes; packets = ap (λ (z : World). z.packets) made.world i; waiting = ap (λ (z : World). z.waiting) made.world i; showings = (world_of w).showings };
    kept = keeps-logs;
    left = left-so;
  }
