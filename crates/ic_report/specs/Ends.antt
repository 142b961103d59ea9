-- How a call ends: its status, and its last line.
use Rattle.std.specs.Prelude.{◌≡◌, ◌⊎◌, ℕ, List, [], ◌∷◌, Option, codes}
use Rattle.ic_base.specs.declared.report.Fault.{Fault}
use Rattle.ic_base.specs.declared.scenario.Program.{Program}
use Rattle.def_report.specs.Faults.{fault_line, status_of}
use Rattle.ic_disk.specs.declared.sink.Sink.{Ghosts}
use Rattle.ic_report.specs.Outputs.{Puts, FailsToPut}
use Rattle.ic_report.specs.declared.ending.Why.{Why}
use Rattle.ic_report.specs.declared.ending.Why.TheVariants.{Fault as AFault, Print, Memory}

-- the last line, which begins with the name of the program
abbrev pub last_line : List ℕ → Option Program → Fault → List (List ℕ)
last_line tool program fault = fault_line tool program fault ∷ []

module _ {K : Type 0} (k : Ghosts K) where
  -- The status of a call of a program that ends for this cause, and what it prints behind what it printed before: for a fault its last
  -- line; unless the output failed within it, or memory was wanting for it.
  abbrev pub EndsAs : List ℕ → Option Program → Why → K → K → ℕ → Type 0
  EndsAs tool program (AFault fault) old new status =
      ((status ≡ status_of fault) × Puts k (last_line tool program fault) old new)
      ⊎ (((status ≡ 9) × FailsToPut k (last_line tool program fault) old new) ⊎ ((status ≡ 12) × (new ≡ old)))
  EndsAs tool program Print old new status = (status ≡ 9) × (new ≡ old)
  EndsAs tool program Memory old new status = (status ≡ 12) × (new ≡ old)

  -- so ends a call of icrun
  abbrev pub EndsWith : Option Program → Why → K → K → ℕ → Type 0
  EndsWith program why old new status = EndsAs (codes "icrun") program why old new status

  -- lines that end a call are printed with status 0, or the output failed within them
  abbrev pub EndsDone : List ℕ → K → K → ℕ → Type 0
  EndsDone lines old new status = ((status ≡ 0) × Puts k (lines ∷ []) old new) ⊎ ((status ≡ 9) × FailsToPut k (lines ∷ []) old new)
