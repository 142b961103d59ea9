-- Why a history has no audit.
use Rattle.std.specs.Prelude.{◌≡◌, ℕ, List, Result, Err}
use Rattle.ic_base.specs.declared.report.Fault.TheVariants as faults
use Rattle.ic_report.specs.declared.ending.Why.{Why}
use Rattle.ic_report.specs.declared.ending.Why.TheVariants.{Fault as AFault, Print, Memory}

-- the entry that has no step; want of memory says nothing of the history
abbrev pub RefusesHistory : Result (List ℕ) ℕ → Why → Type 0
RefusesHistory audit (AFault (faults.Illegal entry)) = audit ≡ Err entry
RefusesHistory audit (AFault _) = ⊥
RefusesHistory audit Print = ⊥
RefusesHistory audit Memory = Unit {0}
