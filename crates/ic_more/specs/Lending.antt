-- The disks of a script's components among those of a call: the chief's is the first, and behind it stands one for each book.
use Rattle.std.specs.Prelude.{◌≡◌, suc, ℕ, List, ◌++◌, length, take}
use Rattle.def_two.specs.Script.{TheScript}

-- how many components a script has
abbrev pub components_of : TheScript → ℕ
components_of s = suc (length s.books)

abbrev pub own : {D : Type 0} → TheScript → List D → List D
own s disks = take (components_of s) disks

-- a list is these so many first members, and behind them these others
pub record Divides {D : Type 0} (count : ℕ) (all first others : List D) : Type 0 where
  pub is : all ≡ first ++ others
  pub long : length first ≡ count
