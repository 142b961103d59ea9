-- The disks below the components of a world, each at the place of its component.
use Rattle.std.proofs.Common.{◌≡◌, ◌∙◌, sym, ap, refl, ℕ, zero, suc, ◌+◌, arith, Bool, true, false, List, [], ◌∷◌, ◌++◌, length, take, Option, Some, None}
use Rattle.std.specs.Prelude.{slice_get, cond}
use Rattle.ic_base.specs.declared.scenario.Component.{Component as Declared}
use Rattle.ic_disk.specs.Disk.{Keeps}
use Rattle.ic_disk.specs.TornDisks.{Torn}
use Rattle.ic_disk.specs.declared.disk.Disk.{Ghosts}
use Rattle.ic_run.specs.Running.{KeepsAll}
use Rattle.ic_node.specs.Meeting.{KeepsDisk, kept_disk}
use Rattle.ic_disk.specs.Torns.{torn}
use Rattle.ic_node.specs.Views.{disk_of}
use Rattle.ic_node.specs.declared.component.Component.{Component}
use Rattle.ic_world.specs.Opening.{is_outside, disks_in, inner_of, disks_under, AllKept}
use Rattle.ic_world.specs.Views.{components_of}
use Rattle.ic_world.specs.declared.world.World.{World}
use Rattle.ic_world.proofs.Places.{same-some}

module _ {D : Type 0} (b : Ghosts D) where
  below : (t u : Torn D) → Keeps (torn b) t u → Keeps b t.inner u.inner
  below t u k = record { tells = k.tells; keeps = k.keeps; later = k.later }

  -- disks that are kept are kept below
  pub under-kept : (xs ys : List (Component (Torn D) (torn b))) → length ys ≡ length xs
      → ((k : ℕ) (x y : Component (Torn D) (torn b)) → slice_get xs k ≡ Some x → slice_get ys k ≡ Some y → KeepsDisk x y)
      → AllKept b (disks_under xs) (disks_under ys)
  under-kept [] [] count each = tt
  under-kept [] (y ∷ ys) count each = absurd (omega (arith, count))
  under-kept (x ∷ xs) [] count each = absurd (omega (arith, count))
  under-kept (x ∷ xs) (y ∷ ys) count each = by (under-kept xs ys (omega (arith, count)) (λ k p q. each (suc k) p q)) (disk_of x) (disk_of y) (each 0 x y refl refl)
    where
      by : AllKept b (disks_under xs) (disks_under ys) → (o p : Option (Torn D)) → kept_disk (torn b) o p → AllKept b (inner_of o ++ disks_under xs) (inner_of p ++ disks_under ys)
      by more None None k = more
      by more None (Some u) k = absurd k
      by more (Some t) None k = absurd k
      by more (Some t) (Some u) k = (below t u k, more)

  pub all-under : (old new : World (Torn D) (torn b)) → KeepsAll old new → AllKept b (disks_under (components_of old)) (disks_under (components_of new))
  all-under old new k = under-kept (components_of old) (components_of new) k.count k.kept

  -- a component has a disk just if it isn't outside
  abbrev pub HasOwn : Declared → Option (Torn D) → Type 0
  HasOwn x None = is_outside x.kind ≡ true
  HasOwn x (Some t) = is_outside x.kind ≡ false

  -- the disk below that of a component comes behind those of the components before it
  pub under-at : (xs : List Declared) (ps : List (Component (Torn D) (torn b))) → length ps ≡ length xs
      → ((k : ℕ) (x : Declared) (p : Component (Torn D) (torn b)) → slice_get xs k ≡ Some x → slice_get ps k ≡ Some p → HasOwn x (disk_of p))
      → (k : ℕ) (p : Component (Torn D) (torn b)) (t : Torn D) → slice_get ps k ≡ Some p → disk_of p ≡ Some t → slice_get (disks_under ps) (disks_in (take k xs)) ≡ Some t.inner
  under-at [] [] count each k p t at has = absurd (cc)
  under-at [] (q ∷ ps) count each k p t at has = absurd (omega (arith, count))
  under-at (x ∷ xs) [] count each k p t at has = absurd (omega (arith, count))
  under-at (x ∷ xs) (q ∷ ps) count each zero p t at has =
      ap (λ o. slice_get (inner_of o ++ disks_under ps) 0) (ap (λ (z : Component (Torn D) (torn b)). disk_of z) (same-some q p at) ∙ has)
  under-at (x ∷ xs) (q ∷ ps) count each (suc k) p t at has =
      by (under-at xs ps (omega (arith, count)) (λ j y z. each (suc j) y z) k p t at has) (disk_of q) (is_outside x.kind) refl (each 0 x q refl refl)
    where
      by : slice_get (disks_under ps) (disks_in (take k xs)) ≡ Some t.inner → (o : Option (Torn D)) (out : Bool) → is_outside x.kind ≡ out → HasOwn x o → slice_get (inner_of o ++ disks_under ps) (cond out (disks_in (take k xs)) (1 + disks_in (take k xs))) ≡ Some t.inner
      by more None true is own = more
      by more None false is own = absurd (let e : true ≡ false = sym own ∙ is in cc)
      by more (Some u) true is own = absurd (let e : true ≡ false = sym is ∙ own in cc)
      by more (Some u) false is own = let one : 1 + disks_in (take k xs) ≡ suc (disks_in (take k xs)) = omega arith in ap (slice_get (u.inner ∷ disks_under ps)) one ∙ more
