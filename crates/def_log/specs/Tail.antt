-- The tail of a log: its batches from the one of the last open slot on.
use Rattle.std.specs.Prelude.{ℕ, List, nat_le, get_or, ◌==◌, ◌&&◌, if◌then◌else◌, Option, Some, None, Result, Err}
use Rattle.ic_base.specs.declared.limits.TheConstants.{FIRST_GATE}
use Rattle.ic_base.specs.declared.record.Batch.{Batch}
use Rattle.def_log.specs.Directory.{slots_in, last_slot, last_offset}
use Rattle.def_log.specs.Frame.{batches_at, behind_header}

-- the gate at which the tail begins: that in the last open slot, or the first gate where no slot is open
abbrev pub tail_gate : List ℕ → ℕ
tail_gate bytes = last_offset FIRST_GATE (slots_in bytes)

-- the place of the slot that the tail uses, if it uses one
abbrev pub tail_slot : List ℕ → Option ℕ
tail_slot bytes = last_slot (slots_in bytes)

-- the batches from a gate on; where a slot at this place holds its offset, an open gate behind the header stands there
abbrev pub batches_by : Option ℕ → ℕ → List ℕ → Result (List Batch) ℕ
batches_by None gate bytes = batches_at gate bytes
batches_by (Some place) gate bytes = if nat_le FIRST_GATE gate && (get_or bytes gate 0 == 1) then batches_at gate bytes else Err place

-- The batches of the tail, or the place at which its frame is refused. No other slot and no batch before it is looked at.
unfoldable pub tail_frame_of : List ℕ → Result (List Batch) ℕ
tail_frame_of bytes = behind_header (batches_by (tail_slot bytes) (tail_gate bytes) bytes) bytes
