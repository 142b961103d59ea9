-- One place of a list that alone passes a test.
use Rattle.std.specs.Prelude.{◌≡◌, ℕ, Bool, true, List, Some, slice_get}

-- the i-th element passes, and no other does
pub record StandsAlone {X : Type 0} (p : X → Bool) (xs : List X) (i : ℕ) (x : X) : Type 0 where
  pub there : slice_get xs i ≡ Some x
  pub passes : p x ≡ true
  pub alone : (j : ℕ) (y : X) → slice_get xs j ≡ Some y → p y ≡ true → i ≡ j
