-- How a call ends: its status, and its last line.
use Rattle.std.specs.Prelude.{◌≡◌, ◌⊎◌, ℕ, List, [], ◌∷◌, Option}
use Rattle.def_two.specs.Script.{TheScript}
use Rattle.def_two.specs.declared.script.TwoRefused.{TwoRefused}
use Rattle.def_two.specs.declared.script.TwoRefused.TheVariants as refused
use Rattle.def_two.specs.declared.script.TwoWhy.{TwoWhy}
use Rattle.def_two.specs.declared.script.TwoWhy.TheVariants as starts
use Rattle.ic_disk.specs.declared.sink.Sink.{Ghosts}
use Rattle.ic_report.specs.Outputs.{Puts, FailsToPut}
use Rattle.ic_more.specs.Faults.{fault_line, status_of}
use Rattle.ic_more.specs.declared.ending.Fault2.TheVariants as faults
use Rattle.ic_more.specs.declared.ending.Why2.{Why2}
use Rattle.ic_more.specs.declared.ending.Why2.TheVariants.{Fault, Print, Memory}

-- why no world begins, as a last line tells it
abbrev pub why_of_start : TwoWhy → Why2
why_of_start (starts.NotBlank c) = Fault (faults.NotBlank c)
why_of_start (starts.Failed c) = Fault (faults.Disk c)
why_of_start starts.Memory = Memory

-- why an event isn't done; `given` is the fingerprint of the script
abbrev pub why_of_step : List ℕ → TwoRefused → Why2
why_of_step given refused.Packets = Fault faults.Packets
why_of_step given (refused.LogFull c) = Fault (faults.LogFull c)
why_of_step given (refused.Bad c place) = Fault (faults.Bad c place)
why_of_step given (refused.Failed c) = Fault (faults.Disk c)
why_of_step given (refused.Foreign c kept) = Fault (faults.Foreign c kept given)
why_of_step given refused.Memory = Memory

module _ {K : Type 0} (k : Ghosts K) where
  -- The status of a call that ends for this cause, and what it prints: for a fault its last line; unless the output failed within it, or
  -- memory was wanting for it.
  abbrev pub EndsWith : Option TheScript → Why2 → K → K → ℕ → Type 0
  EndsWith s (Fault fault) old new status =
      ((status ≡ status_of fault) × Puts k (fault_line s fault ∷ []) old new)
      ⊎ (((status ≡ 9) × FailsToPut k (fault_line s fault ∷ []) old new) ⊎ ((status ≡ 12) × (new ≡ old)))
  EndsWith s Print old new status = (status ≡ 9) × (new ≡ old)
  EndsWith s Memory old new status = (status ≡ 12) × (new ≡ old)
