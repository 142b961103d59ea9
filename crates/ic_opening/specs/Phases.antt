-- The device calls by which a new log is written.
use Rattle.std.specs.Prelude.{ℕ, List, [], ◌∷◌, take, drop}
use Rattle.ic_disk.specs.Stops.{DeviceCall, Writes, Syncs}

-- those of all but its first letter
abbrev pub unopened_calls : List ℕ → List DeviceCall
unopened_calls log = Writes 0 (0 ∷ []) ∷ Syncs ∷ Writes 1 (drop 1 log) ∷ Syncs ∷ []

-- those of its first letter
abbrev pub first_letter_calls : List ℕ → List DeviceCall
first_letter_calls log = Writes 0 (take 1 log) ∷ Syncs ∷ []
