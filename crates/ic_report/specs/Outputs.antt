-- What a call puts into its output, piece by piece.
use Rattle.std.specs.Prelude.{◌≡◌, ◌↔◌, ◌≤◌, ℕ, List, [], ◌∷◌, ◌++◌}
use Rattle.std.specs.List.{concat}
use Rattle.ic_disk.specs.Causes.{Rose, IsFront}
use Rattle.ic_disk.specs.declared.sink.Sink.{Ghosts}

-- one piece, unless it is empty
abbrev pub if_any : List ℕ → List (List ℕ)
if_any [] = []
if_any (b ∷ bs) = (b ∷ bs) ∷ []

module _ {K : Type 0} (k : Ghosts K) where
  -- these pieces were put, in order and no other, and were taken whole
  pub record Puts (pieces : List (List ℕ)) (old new : K) : Type 0 where
    pub tells : k.tells old ↔ k.tells new
    pub taken : k.tells old → k.taken new ≡ k.taken old ++ concat pieces
    pub put : k.pieces new ≡ k.pieces old ++ pieces
    pub later : k.faults old ≤ k.faults new

  -- the output failed at the last of some first pieces, of which it took a front; those before it were put and taken whole
  pub record FailsToPut (pieces : List (List ℕ)) (old new : K) : Type 0 where
    pub whole : List (List ℕ)
    pub piece : List ℕ
    pub behind : List (List ℕ)
    pub is : pieces ≡ whole ++ piece ∷ behind
    pub tells : k.tells old ↔ k.tells new
    pub taken : k.tells old → IsFront (k.taken old ++ concat whole) piece (k.taken new)
    pub put : k.pieces new ≡ k.pieces old ++ (whole ++ piece ∷ [])
    pub later : k.faults old ≤ k.faults new
    pub failed : Rose (k.faults old) (k.faults new)
