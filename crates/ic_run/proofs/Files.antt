-- What the disks below the components of a world read are their files.
use Rattle.std.proofs.Common.{◌≡◌, ◌∙◌, sym, ap, refl, ℕ, zero, suc, arith, Bool, true, false, List, [], ◌∷◌, ◌++◌, length, map, Option, Some, None}
use Rattle.std.specs.Prelude.{slice_get, cond, unwrap_or}
use Rattle.ic_base.specs.declared.messages.ComId.{ComId}
use Rattle.ic_base.specs.declared.scenario.Component.{Component as Declared}
use Rattle.ic_base.specs.declared.scenario.Program.{Program}
use Rattle.def_run.specs.SystemStates.{file_in}
use Rattle.ic_disk.specs.TornDisks.{Torn}
use Rattle.ic_disk.specs.declared.disk.Disk.{Ghosts}
use Rattle.ic_node.specs.Nodes.{read_of}
use Rattle.ic_disk.specs.Torns.{torn}
use Rattle.ic_node.specs.Views.{disk_of, file_of}
use Rattle.ic_node.specs.declared.component.Component.{Component}
use Rattle.ic_run.specs.Lending.{lent}
use Rattle.ic_run.specs.Openings.{files_on}
use Rattle.ic_world.proofs.Places.{same-some}
use Rattle.ic_world.specs.Opening.{is_outside, files_of, inner_of, disks_under}

module _ {D : Type 0} (b : Ghosts D) where
  -- a component has a disk just if it isn't outside, and the disk below reads as its file
  abbrev pub FitsDisk : Declared → Component (Torn D) (torn b) → Option (Torn D) → Type 0
  FitsDisk x p None = is_outside x.kind ≡ true
  FitsDisk x p (Some t) = (is_outside x.kind ≡ false) × (b.seen t.inner ≡ file_of p)

  files-outside : (x : Declared) (xs : List Declared) (files : List (List ℕ)) → is_outside x.kind ≡ true → files_of (x ∷ xs) files ≡ [] ∷ files_of xs files
  files-outside x xs [] is = refl
  files-outside x xs (f ∷ files) is = ap (λ o. cond o ([] ∷ files_of xs (f ∷ files)) (f ∷ files_of xs files)) is

  files-inside : (x : Declared) (xs : List Declared) (f : List ℕ) (files : List (List ℕ)) → is_outside x.kind ≡ false → files_of (x ∷ xs) (f ∷ files) ≡ f ∷ files_of xs files
  files-inside x xs f files is = ap (λ o. cond o ([] ∷ files_of xs (f ∷ files)) (f ∷ files_of xs files)) is

  pub files-under : (xs : List Declared) (ps : List (Component (Torn D) (torn b))) → length ps ≡ length xs
      → ((k : ℕ) (x : Declared) (p : Component (Torn D) (torn b)) → slice_get xs k ≡ Some x → slice_get ps k ≡ Some p → FitsDisk x p (disk_of p))
      → map (λ p. file_of p) ps ≡ files_of xs (map (λ d. b.seen d) (disks_under ps))
  files-under [] [] count each = refl
  files-under [] (p ∷ ps) count each = absurd (omega (arith, count))
  files-under (x ∷ xs) [] count each = absurd (omega (arith, count))
  files-under (x ∷ xs) (p ∷ ps) count each = by (files-under xs ps (omega (arith, count)) (λ k y q. each (suc k) y q)) (disk_of p) refl (each 0 x p refl refl)
    where
      by : map (λ q. file_of q) ps ≡ files_of xs (map (λ d. b.seen d) (disks_under ps)) → (o : Option (Torn D)) → disk_of p ≡ o → FitsDisk x p o → file_of p ∷ map (λ q. file_of q) ps ≡ files_of (x ∷ xs) (map (λ d. b.seen d) (inner_of o ++ disks_under ps))
      by more None is fits =
          ap (λ f. f ∷ map (λ q. file_of q) ps) (ap (read_of (torn b)) is) ∙ ap (λ l. [] ∷ l) more
          ∙ sym (files-outside x xs (map (λ d. b.seen d) (disks_under ps)) fits)
      by more (Some t) is fits =
          ap (λ f. f ∷ map (λ q. file_of q) ps) (sym fits.1) ∙ ap (λ l. b.seen t.inner ∷ l) more
          ∙ sym (files-inside x xs (b.seen t.inner) (map (λ d. b.seen d) (disks_under ps)) fits.0)

  -- the file in the place of a component is what its disk reads
  place-file : (xs : List Declared) (disks : List D) (k : ℕ) (x : Declared) (d : D) → slice_get xs k ≡ Some x → is_outside x.kind ≡ false → slice_get disks k ≡ Some d → slice_get (files_of xs (map (λ z. b.seen z) (lent xs disks))) k ≡ Some (b.seen d)
  place-file [] disks k x d at inside is = absurd (cc)
  place-file (y ∷ ys) [] k x d at inside is = absurd (cc)
  place-file (y ∷ ys) (e ∷ disks) zero x d at inside is =
      let own : is_outside y.kind ≡ false = ap (λ (z : Declared). is_outside z.kind) (same-some y x at) ∙ inside in
      ap (λ l. slice_get l 0) (ap (λ o. files_of (y ∷ ys) (map (λ z. b.seen z) (cond o (lent ys disks) (e ∷ lent ys disks)))) own ∙ files-inside y ys (b.seen e) (map (λ z. b.seen z) (lent ys disks)) own) ∙ ap (λ z. Some (b.seen z)) (same-some e d is)
  place-file (y ∷ ys) (e ∷ disks) (suc k) x d at inside is = by (place-file ys disks k x d at inside is) (is_outside y.kind) refl
    where
      by : slice_get (files_of ys (map (λ z. b.seen z) (lent ys disks))) k ≡ Some (b.seen d) → (o : Bool) → is_outside y.kind ≡ o → slice_get (files_of (y ∷ ys) (map (λ z. b.seen z) (lent (y ∷ ys) (e ∷ disks)))) (suc k) ≡ Some (b.seen d)
      by more true out = ap (λ l. slice_get l (suc k)) (ap (λ o. files_of (y ∷ ys) (map (λ z. b.seen z) (cond o (lent ys disks) (e ∷ lent ys disks)))) out ∙ files-outside y ys (map (λ z. b.seen z) (lent ys disks)) out) ∙ more
      by more false own = ap (λ l. slice_get l (suc k)) (ap (λ o. files_of (y ∷ ys) (map (λ z. b.seen z) (cond o (lent ys disks) (e ∷ lent ys disks)))) own ∙ files-inside y ys (b.seen e) (map (λ z. b.seen z) (lent ys disks)) own) ∙ more

  pub file-of_disk : (program : Program) (disks : List D) (c : ComId) (x : Declared) (d : D) → slice_get program.components c.0 ≡ Some x → is_outside x.kind ≡ false → slice_get disks c.0 ≡ Some d → file_in (files_on b program disks) c ≡ b.seen d
  file-of_disk program disks c x d at inside is = ap (λ o. unwrap_or o []) (place-file program.components disks c.0 x d at inside is)
