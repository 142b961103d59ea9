-- Laws of what a crash may leave of a disk over another one.
use Rattle.std.specs.Prelude.{◌≡◌, ◌⊎◌, ℕ, Bool, true, false, List, [], ◌∷◌, length, refl, ◌&&◌}
use Rattle.std.proofs.Common.{inl, inr, sym, subst}
use Rattle.def_log.specs.Torn.{Write, all_written}
use Rattle.def_log.specs.Images.{MayLeave}
use Rattle.def_log.proofs.Stops.{not_torn}
use Rattle.ic_disk.specs.TornDisks.{TornBy, is_none_held}

-- nothing may arrive
pub may_none : (writes : List Write) (bytes : List ℕ) → MayLeave bytes writes bytes
may_none [] bytes = refl
may_none (w ∷ writes) bytes = (bytes, not_torn w.0 (length w.1) bytes, may_none writes bytes)

-- false isn't true
abbrev pub IsFalse : Bool → Type 0
IsFalse true = ⊥
IsFalse false = Unit {0}

apart : false ≡ true → ⊥
apart e = subst IsFalse e tt

-- what a crash may leave where no write is held, and nothing waits below
pub settled_leaves : (left_since may_leave : List ℕ → Type 0) (below : Bool) (writes : List Write) (file image : List ℕ) → (is_none_held writes && below) ≡ true
    → (below ≡ true → (found : List ℕ) → may_leave found → left_since found) → may_leave file → (image ≡ all_written file writes) ⊎ TornBy writes may_leave image → left_since image
settled_leaves left_since may_leave below [] file image settled counts here (inl is) = counts settled image (subst may_leave (sym is) here)
settled_leaves left_since may_leave below [] file image settled counts here (inr came) = let is : image ≡ came.0 = came.2 in counts settled image (subst may_leave (sym is) came.1)
settled_leaves left_since may_leave below (w ∷ writes) file image settled counts here left = absurd (apart settled)
