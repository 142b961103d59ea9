-- A world whose components crash one after another, each over its disk.
use Rattle.std.proofs.Common.{◌≡◌, ◌∙◌, sym, ap, subst, refl, ℕ, zero, suc, ◌+◌, ◌<◌, ◌≤◌, Bool, true, false, ◌⊎◌, inl, inr, List, [], ◌∷◌, ◌++◌, length, map, arith, Option, Some, None}
use Rattle.std.proofs.lemmas.Bool.{cases_eq, cases_lt}
use Rattle.std.specs.Prelude.{slice_get, slice_set, not, is_some, option_map, option_to_list}
use Rattle.ic_base.specs.declared.messages.ComId.{ComId}
use Rattle.ic_base.specs.declared.record.Record.{Record}
use Rattle.ic_base.specs.declared.scenario.Component.{Component as Declared}
use Rattle.ic_base.specs.declared.scenario.Program.{Program}
use Rattle.def_facts.specs.Playable.{IsPlayable}
use Rattle.def_log.specs.Log.{log_of}
use Rattle.def_run.specs.CoreSteps.{forced_of}
use Rattle.def_run.specs.SystemStates.{IsLog, KeepsLog, has_disk}
use Rattle.def_step.specs.World.{Node, Runs, Serves, Down, External, crashes}
use Rattle.ic_disk.proofs.Disks.{Keeps-refl}
use Rattle.ic_disk.specs.TornDisks.{Torn}
use Rattle.ic_disk.specs.Torns.{torn}
use Rattle.ic_disk.specs.declared.disk.Disk.{Ghosts}
use Rattle.ic_node.specs.Meeting.{kept_disk}
use Rattle.ic_node.specs.Nodes.{disk_in, node_with, read_of, told_of}
use Rattle.ic_node.specs.Recovering.{Crashes}
use Rattle.ic_node.specs.Views.{node_of, disk_of, file_of, com_of, is_over, Tells}
use Rattle.ic_node.specs.declared.component.Component.{Component as Part}
use Rattle.ic_node.specs.declared.done.Done.{Done}
use Rattle.ic_node.specs.declared.node.Node as code
use Rattle.ic_node.specs.declared.node.Node.TheVariants.{Per, Tra, Off, Ext}
use Rattle.ic_world.specs.Allowing.{is_kept}
use Rattle.ic_world.specs.Making.{IsMadeOver, AreMade, Opens}
use Rattle.ic_world.specs.Opening.{is_outside, inner_of, disks_under, places, Finds}
use Rattle.ic_world.specs.Standing.{ArePlaced, HoldLogs}
use Rattle.ic_world.specs.declared.making.Beginning.TheVariants.{Found}
use Rattle.ic_world.specs.declared.world.World.{World as Made}
use Rattle.ic_world.proofs.Acts.{still-placed, still-logs}
use Rattle.ic_world.proofs.FoundWorlds.{finds}
use Rattle.ic_world.proofs.InnerFiles.{settled-disk, seen-below}
use Rattle.ic_world.proofs.Lists.{get-within, get-map, get-set_same, get-set_other, same-com}
use Rattle.ic_world.proofs.Makings.{by-all, read-none}
use Rattle.ic_world.proofs.Places.{same-some, has-at, places-step}

-- it is down over its disk, or outside
abbrev pub is_at_rest : Node → Bool
is_at_rest (Runs p) = false
is_at_rest (Serves t) = false
is_at_rest (Down records) = true
is_at_rest External = true

crash-rests : (n : Node) → is_at_rest (crashes n).node ≡ true
crash-rests (Runs p) = refl
crash-rests (Serves t) = refl
crash-rests (Down records) = refl
crash-rests External = refl

crash-kept : (n : Node) → is_kept (Some (crashes n).node) ≡ is_kept (Some n)
crash-kept (Runs p) = refl
crash-kept (Serves t) = refl
crash-kept (Down records) = refl
crash-kept External = refl

-- the disk below, if there is one
abbrev below : {D : Type 0} → Option (Torn D) → Option D
below o = option_map (λ t. t.inner) o

below-list : {D : Type 0} (o : Option (Torn D)) → inner_of o ≡ option_to_list (below o)
below-list None = refl
below-list (Some t) = refl

module _ {D : Type 0} (b : Ghosts D) where
  pub under-set : (xs : List (Part (Torn D) (torn b))) (i : ℕ) (x y : Part (Torn D) (torn b)) → slice_get xs i ≡ Some x → disk_of y ≡ disk_of x → disks_under (slice_set xs i y) ≡ disks_under xs
  under-set [] i x y at same = refl
  under-set (z ∷ xs) zero x y at same = ap (λ o. inner_of o ++ disks_under xs) (same ∙ ap (λ w. disk_of w) (sym (same-some z x at)))
  under-set (z ∷ xs) (suc i) x y at same = ap (λ l. inner_of (disk_of z) ++ l) (under-set xs i x y at same)

  length-set : (xs : List (Part (Torn D) (torn b))) (i : ℕ) (y : Part (Torn D) (torn b)) → length (slice_set xs i y) ≡ length xs
  length-set [] i y = refl
  length-set (z ∷ xs) zero y = refl
  length-set (z ∷ xs) (suc i) y = ap suc (length-set xs i y)

  kept-same : (o p : Option (Torn D)) → p ≡ o → kept_disk (torn b) o p
  kept-same o p same = subst (λ q. kept_disk (torn b) o q) (sym same) (by o)
    where
      by : (q : Option (Torn D)) → kept_disk (torn b) q q
      by None = tt
      by (Some t) = Keeps-refl t

  -- a component that crashed, and the same before it
  pub same-before : (x y z : Part (Torn D) (torn b)) (done : Done) → Crashes y z done → node_of y ≡ node_of x → com_of y ≡ com_of x → disk_of y ≡ disk_of x → Crashes x z done
  same-before x y z done c node which disk = record {
    step = ap crashes (sym node) ∙ c.step;
    disk = c.disk ∙ disk;
    played = c.played;
    goes_on = record {
      same = c.goes_on.same ∙ which;
      open_still = c.goes_on.open_still;
      logs = λ told print kept.
          c.goes_on.logs (subst (told_of (torn b)) (sym disk) told) print
          (subst (λ n. KeepsLog print (com_of y) (file_of y) (Some n)) (sym node)
          (subst (λ f. KeepsLog print (com_of y) f (Some (node_of x))) (ap (read_of (torn b)) (sym disk)) (subst (λ k. KeepsLog print k (file_of x) (Some (node_of x))) (sym which) kept)));
    };
  }

  -- The first so many of these crashed. Each stands in its place, and has the disk that it had.
  pub record AreLaidDown (print : List ℕ) (olds : List (Part (Torn D) (torn b))) (i : ℕ) (news : List (Part (Torn D) (torn b))) : Type 0 where
    pub count : length news ≡ length olds
    pub placed : ArePlaced news
    pub logs : HoldLogs print news
    pub rest : (k : ℕ) (x : Part (Torn D) (torn b)) → k < i → slice_get news k ≡ Some x → is_at_rest (node_of x) ≡ true
    pub under : disks_under news ≡ disks_under olds
    pub kept : (k : ℕ) (x : Part (Torn D) (torn b)) → slice_get news k ≡ Some x → is_kept (Some (node_of x)) ≡ is_kept (slice_get (map (λ z. node_of z) olds) k)

  module _ (print : List ℕ) (olds : List (Part (Torn D) (torn b))) where
    pub none-laid : ArePlaced olds → HoldLogs print olds → AreLaidDown print olds 0 olds
    none-laid placed logs = record {
      count = refl;
      placed = placed;
      logs = logs;
      rest = λ k x l at. absurd (omega (arith, l));
      under = refl;
      kept = λ k x at. sym (ap is_kept (get-map (λ z. node_of z) olds k ∙ ap (option_map (λ z. node_of z)) at));
    }

    pub one-laid : (i : ℕ) (news : List (Part (Torn D) (torn b))) → AreLaidDown print olds i news → (x y : Part (Torn D) (torn b)) → slice_get news i ≡ Some x → (done : Done) → Crashes x y done → AreLaidDown print olds (i + 1) (slice_set news i y)
    one-laid i news a x y at done c = record {
      count = length-set news i y ∙ a.count;
      placed = still-placed news i x y at a.placed c.goes_on.same c.goes_on.open_still;
      logs = still-logs news i x y at print (a.placed i x at).0 a.logs (kept-same (disk_of x) (disk_of y) c.disk) c.goes_on;
      rest = λ k z l is. rest-of k z l (which k z is);
      under = under-set news i x y at c.disk ∙ a.under;
      kept = λ k z is. kept-of k z (which k z is);
    }
      where
        which : (k : ℕ) (z : Part (Torn D) (torn b)) → slice_get (slice_set news i y) k ≡ Some z → ((k ≡ i) × (z ≡ y)) ⊎ ((k ≡ i → ⊥) × (slice_get news k ≡ Some z))
        which k z is = by (cases_eq k i)
          where
            by : (k ≡ i) ⊎ (k ≡ i → ⊥) → ((k ≡ i) × (z ≡ y)) ⊎ ((k ≡ i → ⊥) × (slice_get news k ≡ Some z))
            by (inl s) = inl (s, same-some z y (sym is ∙ ap (λ j. slice_get (slice_set news i y) j) s ∙ get-set_same news i y (get-within news i x at)))
            by (inr o) = inr (o, sym (get-set_other news i k y o) ∙ is)

        rest-of : (k : ℕ) (z : Part (Torn D) (torn b)) → k < i + 1 → ((k ≡ i) × (z ≡ y)) ⊎ ((k ≡ i → ⊥) × (slice_get news k ≡ Some z)) → is_at_rest (node_of z) ≡ true
        rest-of k z l (inl s) = ap (λ w. is_at_rest (node_of w)) s.1 ∙ ap (λ d. is_at_rest d.node) (sym c.step) ∙ crash-rests (node_of x)
        rest-of k z l (inr o) = a.rest k z (less (cases_lt k i)) o.1
          where
            less : (k < i) ⊎ (i ≤ k) → k < i
            less (inl h) = h
            less (inr h) = absurd (o.0 (omega (arith, l, h)))

        kept-of : (k : ℕ) (z : Part (Torn D) (torn b)) → ((k ≡ i) × (z ≡ y)) ⊎ ((k ≡ i → ⊥) × (slice_get news k ≡ Some z)) → is_kept (Some (node_of z)) ≡ is_kept (slice_get (map (λ w. node_of w) olds) k)
        kept-of k z (inl s) =
            ap (λ w. is_kept (Some (node_of w))) s.1 ∙ ap (λ d. is_kept (Some d.node)) (sym c.step) ∙ crash-kept (node_of x) ∙ a.kept i x at
            ∙ ap (λ j. is_kept (slice_get (map (λ w. node_of w) olds) j)) (sym s.0)
        kept-of k z (inr o) = a.kept k z o.1

  -- a component has a disk just if the definitions say so
  has-disk : (kept : List Record) (n : code.Node (Torn D) (torn b)) → is_some (below (disk_in n)) ≡ is_kept (Some (node_with kept n))
  has-disk kept (Per p) = refl
  has-disk kept (Tra t) = refl
  has-disk kept (Off d) = refl
  has-disk kept Ext = refl

  down-in : (kept : List Record) (n : code.Node (Torn D) (torn b)) (t : Torn D) → disk_in n ≡ Some t → is_at_rest (node_with kept n) ≡ true → node_with kept n ≡ Down kept
  down-in kept (Per p) t has rests = absurd (cc)
  down-in kept (Tra x) t has rests = absurd (cc)
  down-in kept (Off d) t has rests = refl
  down-in kept Ext t has rests = absurd (cc)

  outside-in : (kept : List Record) (n : code.Node (Torn D) (torn b)) → disk_in n ≡ None → node_with kept n ≡ External
  outside-in kept (Per p) none = absurd (cc)
  outside-in kept (Tra x) none = absurd (cc)
  outside-in kept (Off d) none = absurd (cc)
  outside-in kept Ext none = refl

  -- each component has the disk of its place
  places-under : (xs : List Declared) (ps : List (Part (Torn D) (torn b))) → length ps ≡ length xs
      → ((k : ℕ) (x : Declared) (p : Part (Torn D) (torn b)) → slice_get xs k ≡ Some x → slice_get ps k ≡ Some p → is_some (below (disk_of p)) ≡ not (is_outside x.kind))
      → places xs (disks_under ps) ≡ map (λ p. below (disk_of p)) ps
  places-under [] [] count each = refl
  places-under [] (p ∷ ps) count each = absurd (omega (arith, count))
  places-under (x ∷ xs) [] count each = absurd (omega (arith, count))
  places-under (x ∷ xs) (p ∷ ps) count each =
      ap (λ l. places (x ∷ xs) (l ++ disks_under ps)) (below-list (disk_of p))
      ∙ places-step x xs (below (disk_of p)) (disks_under ps) (each 0 x p refl refl)
      ∙ ap (λ l. below (disk_of p) ∷ l) (places-under xs ps (omega (arith, count)) (λ k. each (suc k)))

  module _ (only_now : (disk : D) (image : List ℕ) → b.keeps disk → b.left_since disk (b.moment disk) image → b.may_leave disk image) (program : Program) (print : List ℕ) (made : List (Part (Torn D) (torn b))) (placed : ArePlaced made) (logs : HoldLogs print made)
      (rest : (k : ℕ) (x : Part (Torn D) (torn b)) → slice_get made k ≡ Some x → is_at_rest (node_of x) ≡ true) (count : length made ≡ length program.components) (kept : (c : ComId) (x : Part (Torn D) (torn b)) → slice_get made c.0 ≡ Some x → is_kept (Some (node_of x)) ≡ has_disk program c) where
    has-so : (c : ComId) (x : Part (Torn D) (torn b)) → slice_get made c.0 ≡ Some x → is_some (below (disk_of x)) ≡ has_disk program c
    has-so c x at = has-disk x.kept x.node ∙ kept c x at

    places-so : places program.components (disks_under made) ≡ map (λ p. below (disk_of p)) made
    places-so = places-under program.components made count (λ k d x e f. let c : ComId = record { 0 = k } in has-so c x f ∙ sym (has-at program c d (not (is_outside d.kind)) e refl))

    made-so : (c : ComId) (x : Part (Torn D) (torn b)) → slice_get made c.0 ≡ Some x → (o : Option (Torn D)) → disk_of x ≡ o → IsMadeOver b Found program c print (below o) x
    made-so c x at None has = record { node = outside-in x.kept x.node has; which = same-com (com_of x) c (placed c.0 x at).0; going = (placed c.0 x at).1 }
    made-so c x at (Some t) has = record {
      disk = t;
      which = same-com (com_of x) c (placed c.0 x at).0;
      going = going;
      has = has;
      kept = read-none b only_now t.inner;
      logs = λ told. subst (λ n. KeepsLog print c (file_of x) (Some n)) (sym down) (subst (λ f. IsLog print c.0 f x.kept) (sym file) (log (told-below told)));
      begins = record { records = x.kept; down = down; read = λ told. ap log_of (sym seen) ∙ (log told).holds; bytes = λ told. file ∙ seen };
    }
      where
        going : is_over x ≡ false
        going = (placed c.0 x at).1

        down : node_of x ≡ Down x.kept
        down = down-in x.kept x.node t has (rest c.0 x at)

        seen : (torn b).seen t ≡ b.seen t.inner
        seen = seen-below b t (settled-disk b x.node t has (x.settled going))

        file : file_of x ≡ (torn b).seen t
        file = ap (read_of (torn b)) has

        log : b.tells t.inner → IsLog print c.0 ((torn b).seen t) x.kept
        log told = subst (λ n. IsLog print c.0 ((torn b).seen t) (forced_of (Some n))) down (logs c.0 x t at has told)

        told-below : Tells x → b.tells t.inner
        told-below told = told-in (disk_of x) has told
          where
            told-in : (o : Option (Torn D)) → o ≡ Some t → told_of (torn b) o → b.tells t.inner
            told-in None e h = absurd (cc)
            told-in (Some u) e h = subst (λ (z : Torn D). b.tells z.inner) (same-some u t e) h

    pub are-made : AreMade b Found program print (disks_under made) made
    are-made = record {
      count = count;
      kept = by-all b only_now Found (disks_under made);
      each = λ c x at. record {
        place = below (disk_of x);
        at = ap (λ l. slice_get l c.0) places-so ∙ get-map (λ p. below (disk_of p)) made c.0 ∙ ap (option_map (λ p. below (disk_of p))) at;
        has = has-so c x at;
        made = made-so c x at (disk_of x) refl;
      };
    }

  -- where all of them crashed, each is found over its disk
  pub renewed : ((disk : D) (image : List ℕ) → b.keeps disk → b.left_since disk (b.moment disk) image → b.may_leave disk image) → (program : Program) (print : List ℕ) (olds : List (Part (Torn D) (torn b))) (i : ℕ) (news : List (Part (Torn D) (torn b))) → AreLaidDown print olds i news → length news ≡ i → length news ≡ length program.components → ((c : ComId) → is_kept (slice_get (map (λ z. node_of z) olds) c.0) ≡ has_disk program c) → AreMade b Found program print (disks_under news) news
  renewed only_now program print olds i news a all count kept =
      are-made only_now program print news a.placed a.logs (λ k x at. a.rest k x (omega (arith, all, get-within news k x at)) at) count (λ c x at. a.kept c.0 x at ∙ kept c)

  -- and so is the world
  pub found-there : (program : Program) (print : List ℕ) (disks given : List D) (new : Made (Torn D) (torn b)) → IsPlayable program → disks ≡ given → Opens b Found program print disks new → Finds b program print given new
  found-there program print disks given new playable same opens = subst (λ ds. Finds b program print ds new) same (finds b program print disks playable new opens)
