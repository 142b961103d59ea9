-- The records of a log, or none where it is no log.
use Rattle.std.specs.Prelude.{ℕ, List, [], Result, Ok, Err}
use Rattle.def_two.specs.declared.moves.Record2.{Record2}

abbrev pub read_or_none : Result (List Record2) ℕ → List Record2
read_or_none (Ok rs) = rs
read_or_none (Err place) = []
