-- Lists whose items are each made from another.
use Rattle.std.proofs.Common.{List, [], ◌∷◌, map, arith}
use Rattle.std.specs.List.{AllPairs}
use Rattle.std.proofs.lemmas.List.{length-map, get_or-map}

module _ {X Y : Type 0} (f : X → Y) (R : Y → Y → Type 0) where
  pub AllPairs-map : (xs : List X) → AllPairs (λ x y. R (f x) (f y)) xs → AllPairs R (map f xs)
  AllPairs-map [] h i j d lt within = absurd (omega arith)
  AllPairs-map (x ∷ xs) h i j d lt within =
      let long = length-map (x ∷ xs) f in
      rw (get_or-map f (x ∷ xs) i x d (omega arith), get_or-map f (x ∷ xs) j x d (omega arith)) (h i j x lt (omega arith))
