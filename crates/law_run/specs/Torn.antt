-- What a stop leaves of a log.
use Rattle.std.specs.Prelude.{◌≡◌, ◌⊎◌, ℕ, ◌<◌, true, false, List, ◌++◌, length, Some, Ok}
use Rattle.std.specs.List.{AllByRecursion}
use Rattle.ic_base.specs.declared.events.Stop.{Stop}
use Rattle.ic_base.specs.declared.record.Record.{Record}
use Rattle.def_log.specs.Gated.{log_writes}
use Rattle.def_log.specs.Log.{log_of}
use Rattle.def_log.specs.Sizes.{gate_in}
use Rattle.def_log.specs.Spelling.{Fits}
use Rattle.def_log.specs.Stops.{stop_torn, is_open_at}

-- the byte of the gate tells how a file reads: at 1 as the records before a step and all that it adds, else as those before it
abbrev pub ReadsByGate : ℕ → List Record → List Record → List ℕ → List Record → Type 0
ReadsByGate gate before added new left = ((is_open_at new gate ≡ false) × (left ≡ before)) ⊎ ((is_open_at new gate ≡ true) × (left ≡ before ++ added))

-- What a stop leaves, where it is read at all, is read so.
abbrev pub TornReadsByGate : Type 0
TornReadsByGate = (stop : Stop) (loads gate : ℕ) (old : List ℕ) (added before left : List Record) → log_of old ≡ Ok before → gate_in old ≡ Some gate → 0 < length added → AllByRecursion Fits added → log_of (stop_torn stop loads old (log_writes old gate added)) ≡ Ok left →
    ReadsByGate gate before added (stop_torn stop loads old (log_writes old gate added)) left

-- and before the step the gate's byte isn't 1
abbrev pub GatesAreShut : Type 0
GatesAreShut = (gate : ℕ) (old : List ℕ) (before : List Record) → log_of old ≡ Ok before → gate_in old ≡ Some gate → is_open_at old gate ≡ false
