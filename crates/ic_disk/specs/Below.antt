-- How many device calls a call of a disk makes of the disk that it stands on.
use Rattle.std.specs.Prelude.{ℕ, ◌+◌, ◌≤◌, if◌then◌else◌, List, length}
use Rattle.def_log.specs.Torn.{Write}
use Rattle.ic_disk.specs.Stops.{DeviceCall, AsksLength, Reads, Writes, Syncs, StopState, waiting_with}
use Rattle.ic_disk.specs.TornDisks.{is_due}

-- at most how many, where these writes wait: a write is held, and a sync makes each one that waits, and then syncs
abbrev pub most_below : DeviceCall → List Write → ℕ
most_below AsksLength waiting = 1
most_below Reads waiting = 1
most_below (Writes at bytes) waiting = 0
most_below Syncs waiting = length waiting + 1

-- at most so many more were made; where the call reaches the stop that is set, those of its image: one for each write that
-- waits, that of the call included, and a sync
abbrev pub AddsAtMost : DeviceCall → StopState → ℕ → ℕ → Type 0
AddsAtMost call stop before behind = behind ≤ before + (if is_due stop.script then length (waiting_with call stop.waiting) + 1 else most_below call stop.waiting)
