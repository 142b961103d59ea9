-- What is read off a log's batches, and why nothing is.
use Rattle.std.specs.Prelude.{◌≡◌, ⊤, ℕ, List, Result, Err}
use Rattle.def_two.specs.Logs.{Placed2}
use Rattle.def_two.specs.Records.{Fits2}
use Rattle.ic_gate.specs.declared.refusals.LoadWhy.{LoadWhy}
use Rattle.ic_gate.specs.declared.refusals.LoadWhy.TheVariants.{Bad, Foreign, Failed, Stopped, Memory}

-- the fields of the record are as a log has them
abbrev pub PlacedFits2 : Placed2 → Type 0
PlacedFits2 r = Fits2 r.1

-- why no records are read: the first byte that begins none
abbrev pub FailsToRead : Result (List Placed2) ℕ → LoadWhy → Type 0
FailsToRead read (Bad place) = read ≡ Err place
FailsToRead read (Foreign kept) = ⊥
FailsToRead read Failed = ⊥
FailsToRead read Stopped = ⊥
FailsToRead read Memory = ⊤
