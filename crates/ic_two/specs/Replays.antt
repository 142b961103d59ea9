-- Why the records of a log give no book, or no chief.
use Rattle.std.specs.Prelude.{◌≡◌, ⊤, ℕ, Option, Some}
use Rattle.ic_gate.specs.declared.refusals.LoadWhy.{LoadWhy}
use Rattle.ic_gate.specs.declared.refusals.LoadWhy.TheVariants.{Bad, Foreign, Failed, Stopped, Memory}

-- the place of the first misfit, or want of memory
abbrev pub FailsToPlay : Option ℕ → LoadWhy → Type 0
FailsToPlay misfit (Bad place) = misfit ≡ Some place
FailsToPlay misfit (Foreign kept) = ⊥
FailsToPlay misfit Failed = ⊥
FailsToPlay misfit Stopped = ⊥
FailsToPlay misfit Memory = ⊤
