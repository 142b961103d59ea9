-- The outputs that were shown, and how one is looked up.
use Rattle.std.specs.Prelude.{◌≡◌, ℕ, Bool, ◌&&◌, ◌==◌, List}
use Rattle.std.specs.List.{list_any}
use Rattle.std.specs.HashSet.{HashSet, contains}
use Rattle.ic_base.specs.declared.messages.ComId.{ComId}
use Rattle.ic_base.specs.declared.messages.Output.{Output}
use Rattle.def_step.specs.World.{same_showing}

-- what each component showed, in order, and for how many more there is room
pub record RoomyShowings : Type 0 where
  pub showings : List (ComId × Output)
  pub spare : ℕ

abbrev pub same_key : ℕ × ℕ → ℕ × ℕ → Bool
same_key x y = (x.0 == y.0) && (x.1 == y.1)

-- the numbers that are kept are those of the outputs that were shown
abbrev pub AreIndexed : {S : Type 0} → HashSet (ℕ × ℕ) S → List (ComId × Output) → Type 0
AreIndexed numbers showings = (c : ComId) (m : ℕ) → contains same_key numbers (c.0, m) ≡ list_any (same_showing c m) showings
