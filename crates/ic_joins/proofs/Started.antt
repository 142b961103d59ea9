-- The components of a started world that have a disk are those of the berths.
use Rattle.std.proofs.Common.{◌≡◌, ◌∙◌, sym, ap, subst, refl, ℕ, zero, suc, ◌+◌, Bool, true, false, cond, List, [], ◌∷◌, ◌++◌, length, map, filter, arith, ◌≤◌, le_refl, inl, inr, Option, Some, None, option_map}
use Rattle.std.specs.Prelude.{slice_get, is_some}
use Rattle.std.proofs.lemmas.List.{length-map}
use Rattle.std.specs.List.{AllByRecursion}
use Rattle.std.proofs.lemmas.List.Elements.{All-contains, All-from_recursion}
use Rattle.std.proofs.lemmas.Option.{same_Some}
use Rattle.ic_base.specs.declared.events.Event.{Event}
use Rattle.ic_base.specs.declared.messages.ComId.{ComId}
use Rattle.ic_base.specs.declared.record.Record.{Record}
use Rattle.ic_base.specs.declared.refusals.WorldRefused.{WorldRefused}
use Rattle.ic_base.specs.declared.scenario.Component.{Component as Declared}
use Rattle.ic_base.specs.declared.scenario.Program.{Program}
use Rattle.def_run.specs.SystemStates.{KeepsLog, IsLog, has_disk}
use Rattle.def_run.specs.CoreSteps.{forced_of}
use Rattle.def_step.specs.World.{first_node, first_world, node_at}
use Rattle.def_live.specs.Turns.{coms_from}
use Rattle.ic_disk.specs.TornDisks.{Torn}
use Rattle.ic_disk.specs.Torns.{torn}
use Rattle.ic_disk.specs.declared.disk.Disk.{Ghosts}
use Rattle.ic_node.specs.Nodes.{node_with, disk_in, read_of, told_of}
use Rattle.ic_node.specs.Views.{node_of, com_of, disk_of, file_of, Tells}
use Rattle.ic_node.specs.declared.component.Component.{Component}
use Rattle.ic_node.specs.declared.node.Node.{Node as Held}
use Rattle.ic_node.specs.declared.node.Node.TheVariants.{Per, Tra, Off, Ext}
use Rattle.law_found.proofs.First.{node-at}
use Rattle.law_run.specs.Ends.{AreEvents}
use Rattle.law_syntax.specs.Events.{IsEvent}
use Rattle.ic_live.specs.Berthed.{berthed}
use Rattle.ic_live.specs.Ended.{AreStarted, AllTell, IsRefused}
use Rattle.ic_live.specs.Faults.{faults_in, faults_at, HaveFailed}
use Rattle.ic_joins.specs.Threads.{faults_on}
use Rattle.ic_world.specs.Allowing.{is_kept, IsMadeFor}
use Rattle.ic_world.specs.Opening.{Starts, inner_of, disks_under, AllKept, AllTell as DisksTell}
use Rattle.ic_world.specs.Standing.{ArePlaced, HoldLogs}
use Rattle.ic_world.specs.Views.{components_of, world_of, Tells as Tells_all}
use Rattle.ic_world.specs.declared.world.World.{World}
use Rattle.ic_world.proofs.Lists.{get-map}
use Rattle.ic_world.proofs.Sizes.{keeps-log}

-- what is kept of two lists that have the same in each place
filters-same : {A B : Type 0} (f : A → Bool) (g : B → Bool) (which : A → B) (xs : List A) → ((k : ℕ) (x : A) → slice_get xs k ≡ Some x → f x ≡ g (which x)) → filter g (map which xs) ≡ map which (filter f xs)
filters-same f g which [] same = refl
filters-same f g which (x ∷ xs) same = by (f x) (g (which x)) (same 0 x refl) (filters-same f g which xs (λ k. same (suc k)))
  where
    by : (a b : Bool) → a ≡ b → filter g (map which xs) ≡ map which (filter f xs) → cond b (which x ∷ filter g (map which xs)) (filter g (map which xs)) ≡ map which (cond a (x ∷ filter f xs) (filter f xs))
    by true true e more = ap (λ l. which x ∷ l) more
    by false false e more = more
    by true false e more = absurd (cc e)
    by false true e more = absurd (cc e)

-- where what is kept stood
filter-at : {A : Type 0} (f : A → Bool) (xs : List A) (k : ℕ) (x : A) → slice_get (filter f xs) k ≡ Some x → (j : ℕ) × (slice_get xs j ≡ Some x) × (f x ≡ true)
filter-at f [] k x e = absurd (cc e)
filter-at f (y ∷ ys) k x e = by (f y) refl k e (filter-at f ys)
  where
    next : (j : ℕ) × (slice_get ys j ≡ Some x) × (f x ≡ true) → (j : ℕ) × (slice_get (y ∷ ys) j ≡ Some x) × (f x ≡ true)
    next h = (suc h.0, h.1, h.2)

    by : (b : Bool) → f y ≡ b → (k : ℕ) → slice_get (cond b (y ∷ filter f ys) (filter f ys)) k ≡ Some x → ((k : ℕ) (x : _) → slice_get (filter f ys) k ≡ Some x → (j : ℕ) × (slice_get ys j ≡ Some x) × (f x ≡ true)) → (j : ℕ) × (slice_get (y ∷ ys) j ≡ Some x) × (f x ≡ true)
    by false is k e more = next (more k x e)
    by true is zero e more = let same : y ≡ x = same_Some y x e in (0, e, ap f (sym same) ∙ is)
    by true is (suc k) e more = next (more k x e)

-- components in their places
coms-are : {A : Type 0} (which : A → ComId) (n : ℕ) (xs : List A) (ds : List Declared) → length xs ≡ length ds → ((k : ℕ) (x : A) → slice_get xs k ≡ Some x → (which x).0 ≡ n + k) → map which xs ≡ coms_from n ds
coms-are which n [] [] l at = refl
coms-are which n (x ∷ xs) (d ∷ ds) l at =
    let here : (which x).0 ≡ n = omega (arith, at 0 x refl) in
    let P : ℕ → ComId = λ i. record { 0 = i } in
    ap (λ c. c ∷ map which xs) (ap P here) ∙ ap (λ l. record { 0 = n } ∷ l) (coms-are which (n + 1) xs ds (omega (arith, l)) (λ k y e. let h = at (suc k) y e in omega (arith, h)))
coms-are which n [] (d ∷ ds) l at = absurd (omega (arith, l))
coms-are which n (x ∷ xs) [] l at = absurd (omega (arith, l))

module _ {D : Type 0} {d : Ghosts D} where
  -- a component has a disk where it is none outside
  kept-in : (kept : List Record) (n : Held D d) → is_some (disk_in n) ≡ is_kept (Some (node_with kept n))
  kept-in kept (Per p) = refl
  kept-in kept (Tra t) = refl
  kept-in kept (Off disk) = refl
  kept-in kept Ext = refl

  pub has-kept : (x : Component D d) → is_some (disk_of x) ≡ is_kept (Some (node_of x))
  has-kept x = kept-in x.kept x.node

module _ {D : Type 0} {d : Ghosts D} (program : Program) (print : List ℕ) (w : World D d) (first : world_of w ≡ first_world program) (count : length (components_of w) ≡ length program.components) (made : IsMadeFor program (world_of w)) (placed : ArePlaced (components_of w)) (logs : HoldLogs print (components_of w)) where
  abbrev xs : List (Component D d)
  xs = filter (λ (x : Component D d). is_some (disk_of x)) (components_of w)

  at-place : (k : ℕ) (x : Component D d) → slice_get (components_of w) k ≡ Some x → node_at (world_of w) (com_of x) ≡ Some (node_of x)
  at-place k x e = get-map (λ y. node_of y) (components_of w) (com_of x).0 ∙ ap (λ j. option_map (λ y. node_of y) (slice_get (components_of w) j)) (placed k x e).0 ∙ ap (option_map (λ y. node_of y)) e

  has-so : (k : ℕ) (x : Component D d) → slice_get (components_of w) k ≡ Some x → is_some (disk_of x) ≡ has_disk program (com_of x)
  has-so k x e = has-kept x ∙ ap is_kept (sym (at-place k x e)) ∙ made.kept (com_of x)

  berthed-are : berthed program ≡ map (λ (x : Component D d). com_of x) xs
  berthed-are =
      ap (filter (has_disk program)) (sym (coms-are (λ (x : Component D d). com_of x) 0 (components_of w) program.components count (λ k x e. let h = (placed k x e).0 in omega (arith, h))))
      ∙ filters-same (λ (x : Component D d). is_some (disk_of x)) (has_disk program) (λ x. com_of x) (components_of w) has-so

  log-so : (k : ℕ) (x : Component D d) → slice_get (components_of w) k ≡ Some x → (o : Option D) → disk_of x ≡ o → is_some o ≡ true → Tells x → KeepsLog print (com_of x) (file_of x) (Some (node_of x))
  log-so k x e None is has tells = absurd (cc has)
  log-so k x e (Some disk) is has tells = keeps-log print (com_of x) (file_of x) (node_of x) (λ kept.
      subst (λ p. IsLog print (com_of x).0 (read_of d p) (forced_of (Some (node_of x)))) (sym is) (subst (λ n. IsLog print n (d.seen disk) (forced_of (Some (node_of x)))) (sym (placed k x e).0) (logs k x disk e is (subst (λ (p : Option D). told_of d p) is tells))))

  pub are-started : AreStarted program print xs
  are-started = record {
    one_each = sym (ap (λ (l : List ComId). length l) berthed-are ∙ length-map xs (λ (x : Component D d). com_of x));
    at_place = λ k x e. ap (λ l. slice_get l k) berthed-are ∙ get-map (λ (x : Component D d). com_of x) xs k ∙ ap (option_map (λ (x : Component D d). com_of x)) e;
    up = λ k x e. let h = filter-at (λ (x : Component D d). is_some (disk_of x)) (components_of w) k x e in record {
      first = λ declared at. same_Some (node_of x) (first_node program (com_of x) declared.kind) (sym (at-place h.0 x h.1) ∙ ap (λ z. node_at z (com_of x)) first ∙ node-at program (com_of x) ∙ ap (option_map (λ (z : Declared). first_node program (com_of x) z.kind)) at);
      going = (placed h.0 x h.1).1;
      logs = log-so h.0 x h.1 (disk_of x) refl h.2;
    };
    has_disk = λ k x e. (filter-at (λ (x : Component D d). is_some (disk_of x)) (components_of w) k x e).2;
  }

  pub all-told : Tells_all w → AllTell xs
  all-told told k x e = let h = filter-at (λ (x : Component D d). is_some (disk_of x)) (components_of w) k x e in told h.0 x h.1

-- of a world that just started over these disks
module _ {D : Type 0} (b : Ghosts D) (program : Program) (print : List ℕ) (disks : List D) (w : World (Torn D) (torn b)) (s : Starts b program print disks w) (xs : List (Component (Torn D) (torn b))) (are : xs ≡ filter (λ (x : Component (Torn D) (torn b)). is_some (disk_of x)) (components_of w)) where
  pub berths-started : AreStarted program print xs
  berths-started =
      let logs : HoldLogs print (components_of w) = subst (λ z. HoldLogs z (components_of w)) s.is_new.is_own (w.logs s.is_new.going) in
      subst (AreStarted program print) (sym are) (are-started program print w s.world s.is_new.count s.is_new.made (w.placed s.is_new.going) logs)

  pub berths-told : DisksTell b disks → AllTell xs
  berths-told tell =
      let logs : HoldLogs print (components_of w) = subst (λ z. HoldLogs z (components_of w)) s.is_new.is_own (w.logs s.is_new.going) in
      subst (λ (l : List (Component (Torn D) (torn b))). AllTell l) (sym are) (all-told program print w s.world s.is_new.count s.is_new.made (w.placed s.is_new.going) logs (s.is_new.tells tell))

module _ {D : Type 0} (b : Ghosts D) where
  -- the components that have a disk, of those over disks that are kept, have failed no less
  pub faults-kept : (all : List (Component (Torn D) (torn b))) (disks : List D) → AllKept b disks (disks_under all) → (k : ℕ) → faults_on b disks k ≤ faults_at (filter (λ (x : Component (Torn D) (torn b)). is_some (disk_of x)) all) k
  faults-kept [] [] kept k = le_refl 0
  faults-kept [] (y ∷ ys) kept k = absurd kept
  faults-kept (x ∷ all) disks kept k = by (faults-kept all) (disk_of x) refl disks kept k
    where
      rest : List (Component (Torn D) (torn b))
      rest = filter (λ (x : Component (Torn D) (torn b)). is_some (disk_of x)) all

      by : ((ys : List D) → AllKept b ys (disks_under all) → (k : ℕ) → faults_on b ys k ≤ faults_at rest k) → (o : Option (Torn D)) → disk_of x ≡ o → (ys : List D) → AllKept b ys (inner_of o ++ disks_under all) → (k : ℕ) → faults_on b ys k ≤ faults_at (cond (is_some o) (x ∷ rest) rest) k
      by more None is ys kept k = more ys kept k
      by more (Some t) is [] kept k = absurd kept
      by more (Some t) is (y ∷ ys) kept zero = subst (λ (o : Option (Torn D)). b.faults y ≤ faults_in (torn b) o) (sym is) kept.0.later
      by more (Some t) is (y ∷ ys) kept (suc k) = more ys kept.1 k

  module _ (program : Program) (print : List ℕ) (disks : List D) (w : World (Torn D) (torn b)) (s : Starts b program print disks w) (xs : List (Component (Torn D) (torn b))) (are : xs ≡ filter (λ (x : Component (Torn D) (torn b)). is_some (disk_of x)) (components_of w)) where
    begun-faults : (k : ℕ) → faults_on b disks k ≤ faults_at xs k
    begun-faults k = subst (λ (l : List (Component (Torn D) (torn b))). faults_on b disks k ≤ faults_at l k) (sym are) (faults-kept (components_of w) disks s.is_new.disks k)

    -- so are those that came out of their berths
    pub failed-since : (news : List (Component (Torn D) (torn b))) → HaveFailed (faults_at xs) news → HaveFailed (faults_on b disks) news
    failed-since news failed k y at = omega (arith, begun-faults k, failed k y at)

    -- a refusal of these is one over the disks
    pub refused-since : (news : List (Component (Torn D) (torn b))) (received packets : ℕ) (why : WorldRefused) → IsRefused b (faults_at xs) (AllTell xs) program print news received packets why → IsRefused b (faults_on b disks) (DisksTell b disks) program print news received packets why
    refused-since news received packets why (inl memory) = inl memory
    refused-since news received packets why (inr r) = inr (record {
      one_each = r.one_each;
      have_disks = r.have_disks;
      place = r.place;
      old = r.old;
      new = r.new;
      next = r.next;
      at_place = r.at_place;
      came_out = r.came_out;
      own = r.own;
      cause = r.cause;
      since = omega (arith, begun-faults r.place, r.since);
      sound = λ tell. r.sound (berths-told b program print disks w s xs are tell);
      lowest = r.lowest;
    })

-- the events of a plan are such as may come
pub events-are : (program : Program) (events : List Event) → AllByRecursion (IsEvent program) events → AreEvents program events
events-are program events all e has = All-contains (IsEvent program) events e (All-from_recursion (IsEvent program) events all) has
