-- Which disk a component of a program has, among disks that were taken out and put back.
use Rattle.std.proofs.Common.{◌≡◌, ◌∙◌, sym, ap, refl, subst, ℕ, ◌+◌, ◌≤◌, Bool, true, false, List, [], length, take, Option, Some, None, option_map}
use Rattle.std.specs.Prelude.{slice_get, ◌||◌, unwrap_or}
use Rattle.std.proofs.lemmas.Option.{slice_get-map}
use Rattle.ic_base.specs.declared.messages.ComId.{ComId}
use Rattle.ic_base.specs.declared.messages.Kind.{Kind}
use Rattle.ic_base.specs.declared.messages.Kind.TheVariants as kinds
use Rattle.ic_base.specs.declared.scenario.Component.{Component}
use Rattle.ic_base.specs.declared.scenario.Program.{Program}
use Rattle.ic_base.specs.Programs.{declares, is_pcom, is_tcom}
use Rattle.def_run.specs.SystemStates.{file_in, has_disk}
use Rattle.ic_disk.specs.declared.disk.Disk.{Ghosts}
use Rattle.ic_world.specs.Opening.{is_outside, disks_in, files_on, places}
use Rattle.ic_world.proofs.Places.{same-some, file_at, files-so}
use Rattle.ic_run.specs.Lending.{lent, left_over, merged}
use Rattle.ic_run.proofs.Places.{lent_count, lent_enough, lent_merged, merged_same, own_place, other_place, lent_place}

-- how many of a program's components before c have a disk
abbrev pub number_of : Program → ComId → ℕ
number_of program c = disks_in (take c.0 program.components)

some_inside : (o : Option Component) → (declares (λ x. is_pcom x.kind) o || declares (λ x. is_tcom x.kind) o) ≡ true → (x : Component) × (o ≡ Some x) × (is_outside x.kind ≡ false)
some_inside None h = absurd (cc h)
some_inside (Some x) h = (x, refl, by x.kind h)
  where
    by : (k : Kind) → (is_pcom k || is_tcom k) ≡ true → is_outside k ≡ false
    by kinds.Pcom g = refl
    by kinds.Tcom g = refl
    by kinds.Xcom g = absurd (cc g)

all_outside : (o : Option Component) → (declares (λ x. is_pcom x.kind) o || declares (λ x. is_tcom x.kind) o) ≡ false → (x : Component) → o ≡ Some x → is_outside x.kind ≡ true
all_outside o h x e = by x.kind (ap (λ (p : Option Component). declares (λ z. is_pcom z.kind) p || declares (λ z. is_tcom z.kind) p) (sym e) ∙ h)
  where
    by : (k : Kind) → (is_pcom k || is_tcom k) ≡ false → is_outside k ≡ true
    by kinds.Pcom g = absurd (cc g)
    by kinds.Tcom g = absurd (cc g)
    by kinds.Xcom g = refl

-- a component that has a disk, and isn't outside
pub inside_of : (program : Program) (c : ComId) → has_disk program c ≡ true → (x : Component) × (slice_get program.components c.0 ≡ Some x) × (is_outside x.kind ≡ false)
inside_of program c has = some_inside (slice_get program.components c.0) has

pub outside_of : (program : Program) (c : ComId) → has_disk program c ≡ false → (x : Component) → slice_get program.components c.0 ≡ Some x → is_outside x.kind ≡ true
outside_of program c none = all_outside (slice_get program.components c.0) none

module _ {D : Type 0} (program : Program) where
  -- the disk of a component stands in its place
  pub own_disk : (others disks : List D) → length disks ≡ disks_in program.components → length program.components ≤ length others + length disks → (c : ComId) → has_disk program c ≡ true → slice_get (merged program.components others disks) c.0 ≡ slice_get disks (number_of program c)
  own_disk others disks count enough c has =
      let x = inside_of program c has in own_place program.components others disks count enough c.0 x.0 x.1 x.2

  -- it was taken out of there
  pub lent_disk : (disks : List D) → length program.components ≤ length disks → (c : ComId) → has_disk program c ≡ true → slice_get (lent program.components disks) (number_of program c) ≡ slice_get disks c.0
  lent_disk disks enough c has =
      let xs = program.components in
      sym (own_disk (left_over xs disks) (lent xs disks) (lent_count xs disks enough) (lent_enough xs disks enough) c has) ∙ ap (λ l. slice_get l c.0) (merged_same xs disks enough)

  -- there are enough to put back where there were enough to take
  pub enough_back : (disks back : List D) → length program.components ≤ length disks → length back ≡ disks_in program.components → length program.components ≤ length (left_over program.components disks) + length back
  enough_back disks back enough count =
      let xs = program.components in
      let same : length (lent xs disks) ≡ length back = lent_count xs disks enough ∙ sym count in
      subst (λ n. length xs ≤ length (left_over xs disks) + n) same (lent_enough xs disks enough)

  -- the disk in any other place is the one that stood there
  pub other_disk : (disks back : List D) → length program.components ≤ length disks → length back ≡ disks_in program.components → (c : ComId) → has_disk program c ≡ false → slice_get (merged program.components (left_over program.components disks) back) c.0 ≡ slice_get disks c.0
  other_disk disks back enough count c none =
      let xs = program.components in
      other_place xs (left_over xs disks) back count (enough_back disks back enough count) c.0 (outside_of program c none)
      ∙ sym (other_place xs (left_over xs disks) (lent xs disks) (lent_count xs disks enough) (lent_enough xs disks enough) c.0 (outside_of program c none))
      ∙ ap (λ l. slice_get l c.0) (merged_same xs disks enough)

  -- what holds between each disk that was taken out and the one that is put back for it, and of a disk and itself, holds in every place
  pub each_place : (R : D → D → Type 0) (disks back : List D) → length program.components ≤ length disks → length back ≡ disks_in program.components
      → ((d : D) → R d d) → ((k : ℕ) (old new : D) → slice_get (lent program.components disks) k ≡ Some old → slice_get back k ≡ Some new → R old new)
      → (c : ComId) (old new : D) → slice_get disks c.0 ≡ Some old → slice_get (merged program.components (left_over program.components disks) back) c.0 ≡ Some new → R old new
  each_place R disks back enough count itself kept c old new was now = by (has_disk program c) refl
    where
      by : (b : Bool) → has_disk program c ≡ b → R old new
      by true has = kept (number_of program c) old new (lent_disk disks enough c has ∙ was) (sym (own_disk (left_over program.components disks) back count (enough_back disks back enough count) c has) ∙ now)
      by false none = subst (R old) (same-some old new (sym was ∙ sym (other_disk disks back enough count c none) ∙ now)) (itself old)

module _ {D : Type 0} (b : Ghosts D) (program : Program) where
  -- the file of a component is what the disk in its place reads
  pub file_lent : (disks : List D) (c : ComId) (d : D) → has_disk program c ≡ true → slice_get disks c.0 ≡ Some d → file_in (files_on b program (lent program.components disks)) c ≡ b.seen d
  file_lent disks c d has there =
      let xs = program.components in
      let x = inside_of program c has in
      ap (λ l. unwrap_or (slice_get l c.0) []) (files-so b.seen xs (lent xs disks))
      ∙ ap (λ o. unwrap_or o []) (slice_get-map (λ o. file_at b.seen o) (places xs (lent xs disks)) c.0 ∙ ap (option_map (λ o. file_at b.seen o)) (lent_place xs disks c.0 x.0 d x.1 x.2 there))

  -- the same of disks that are put back
  pub file_merged : (others disks : List D) → length disks ≡ disks_in program.components → length program.components ≤ length others + length disks → (c : ComId) (d : D) → has_disk program c ≡ true → slice_get (merged program.components others disks) c.0 ≡ Some d → file_in (files_on b program disks) c ≡ b.seen d
  file_merged others disks count enough c d has there =
      ap (λ l. file_in (files_on b program l) c) (sym (lent_merged program.components others disks count enough))
      ∙ file_lent (merged program.components others disks) c d has there
