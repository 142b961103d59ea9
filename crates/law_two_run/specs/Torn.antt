-- What a stop leaves of a log.
use Rattle.std.specs.Prelude.{◌≡◌, ◌⊎◌, ℕ, ◌<◌, true, false, List, [], ◌∷◌, ◌++◌, length, Some, Ok}
use Rattle.std.specs.List.{AllByRecursion}
use Rattle.ic_base.specs.declared.events.Stop.{Stop}
use Rattle.def_log.specs.Gated.{batch_write}
use Rattle.def_log.specs.Sizes.{gate_in}
use Rattle.def_log.specs.Stops.{stop_torn, is_open_at}
use Rattle.def_two.specs.declared.moves.Record2.{Record2}
use Rattle.def_two.specs.Records.{spelling2, payload2_of, Fits2, record2_at}
use Rattle.def_two.specs.Logs.{log2_of}

-- what was written is read again, whatever follows it
abbrev pub IsReadAgain2 : Type 0
IsReadAgain2 = (r : Record2) (rest : List ℕ) → Fits2 r → record2_at (spelling2 r ++ rest) ≡ Some (r, rest)

-- the byte of the gate tells how a file reads: at 1 as the records before a step and all that it adds, else as those before it
abbrev pub ReadsByGate2 : ℕ → List Record2 → List Record2 → List ℕ → List Record2 → Type 0
ReadsByGate2 gate before added new left = ((is_open_at new gate ≡ false) × (left ≡ before)) ⊎ ((is_open_at new gate ≡ true) × (left ≡ before ++ added))

-- What a stop leaves, where it is read at all, is read so.
abbrev pub TornReadsByGate2 : Type 0
TornReadsByGate2 = (stop : Stop) (loads gate : ℕ) (old : List ℕ) (added before left : List Record2) → log2_of old ≡ Ok before → gate_in old ≡ Some gate → 0 < length added → AllByRecursion Fits2 added → log2_of (stop_torn stop loads old (batch_write gate (payload2_of added) ∷ [])) ≡ Ok left →
    ReadsByGate2 gate before added (stop_torn stop loads old (batch_write gate (payload2_of added) ∷ [])) left
