-- What tables of names stand for: lists in order of declaration.
use Rattle.std.specs.Prelude.{ℕ, List, map}
use Rattle.std.specs.Borrow.{Bor}
use Rattle.std.specs.declared.vec.Vec.{Vec}

module _ {A : Type 0} where
  -- the names that a set has as its keys
  abbrev pub names_seen : List (Vec ℕ A) → List (List ℕ)
  names_seen ks = map (λ (k : Vec ℕ A). k.items) ks

  -- the names and values that a map has as its entries
  abbrev pub entries_seen : {V : Type 0} → List (Vec ℕ A × V) → List (List ℕ × V)
  entries_seen {V} es = map (λ (e : Vec ℕ A × V). (e.0.items, e.1)) es

-- the names that stand behind borrowed keys
abbrev pub slices_seen : List (Bor (List ℕ)) → List (List ℕ)
slices_seen ks = map (λ (k : Bor (List ℕ)). k.now) ks
