-- Where records stand in their file.
use Rattle.std.specs.Prelude.{ℕ, List, map}
use Rattle.def_log.specs.Log.{Placed}

-- the places of the first bytes of records
abbrev pub places_of : List Placed → List ℕ
places_of rs = map (λ r. r.0) rs
