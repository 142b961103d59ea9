-- Books of a world that are up, as their lines need them.
use Rattle.std.specs.Prelude.{◌≡◌, ℕ, length, true}
use Rattle.def_two.specs.Ends.{IsBook}
use Rattle.def_two.specs.Moves.{Openings, nth_book}
use Rattle.def_two.specs.World.{World2, book_at, is_up, site_at}

-- a component that is up and holds so many values
pub record IsUpWith (openings : Openings) (w : World2) (b keys : ℕ) : Type 0 where
  pub up : is_up (site_at w b) ≡ true
  pub values : length (book_at openings w b).values ≡ keys

-- each book is up, with a value for each of its opening ones
abbrev pub AreUp : Openings → World2 → Type 0
AreUp openings w = (b : ℕ) → IsBook openings b → IsUpWith openings w b (length (nth_book openings b))
