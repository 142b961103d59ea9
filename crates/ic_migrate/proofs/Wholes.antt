-- New logs that are each whole or refused.
use Rattle.std.proofs.Common.{◌≡◌, ◌∙◌, sym, refl, ◌⊎◌, inl, inr, ℕ, zero, suc, List, [], ◌∷◌, Some}
use Rattle.std.specs.Prelude.{slice_get}
use Rattle.def_former.specs.Opening.{IsWholeOrRefused}
use Rattle.ic_opening.proofs.Loops.{same_item}
use Rattle.ic_migrate.specs.Migrations.{AreWhole, SomeIsRefused, AllAreWholeOrSomeIsRefused}

pub all_or_some : AllAreWholeOrSomeIsRefused
all_or_some [] images each = inl (λ i log image got there. absurd (cc got))
all_or_some (l ∷ logs) [] each = inl (λ i log image got there. absurd (cc there))
all_or_some (l ∷ logs) (m ∷ images) each =
    first (each 0 l m refl refl) (all_or_some logs images (λ i log image got there. each (suc i) log image got there))
  where
    whole : m ≡ l → AreWhole logs images → (i : ℕ) (log image : List ℕ) → slice_get (l ∷ logs) i ≡ Some log → slice_get (m ∷ images) i ≡ Some image → image ≡ log
    whole here all zero log image got there = sym (same_item m image there) ∙ here ∙ same_item l log got
    whole here all (suc i) log image got there = all i log image got there

    first : IsWholeOrRefused l m → AreWhole logs images ⊎ SomeIsRefused images → AreWhole (l ∷ logs) (m ∷ images) ⊎ SomeIsRefused (m ∷ images)
    first (inr refused) others = inr (0, m, refl, refused)
    first (inl here) (inl all) = inl (whole here all)
    first (inl here) (inr some) = inr (suc some.0, some.1, some.2, some.3)
