-- Parts of a record that are read in one step.
use Rattle.std.specs.Prelude.{ℕ, ℤ, List, Option, Some, option_and_then}
use Rattle.std.specs.Int.{w16}
use Rattle.def_log.specs.Reading.{number_at, value_at}

infixl 10 ◌>>=◌
abbrev pub ◌>>=◌ : {A B : Type 0} → Option A → (A → Option B) → Option B
read >>= f = option_and_then f read

-- a written key with its value
unfoldable pub write_at : List ℕ → Option ((ℕ × ℤ) × List ℕ)
write_at bytes = do
  key ← number_at w16 bytes
  x ← value_at key.1
  Some ((key.0, x.0), x.1)
