-- Where the records of a log stand in its file, and which may stand there next.
use Rattle.std.specs.Prelude.{ℕ, List, [], map, Result, Ok, Err}
use Rattle.def_log.specs.Log.{Placed}

-- the records that were read, with their places, or none
abbrev pub placed_or_none : Result (List Placed) ℕ → List Placed
placed_or_none (Ok rs) = rs
placed_or_none (Err place) = []

-- where they stand
abbrev pub places_read : Result (List Placed) ℕ → List ℕ
places_read read = map (λ r. r.0) (placed_or_none read)
