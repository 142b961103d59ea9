-- Where a record ends in its log, counted in bytes of payload.
use Rattle.std.specs.Prelude.{ℕ, ◌+◌, ◌*◌, List, length, sum_by, Option, Some, None}
use Rattle.ic_base.specs.declared.messages.AbortCause.{AbortCause}
use Rattle.ic_base.specs.declared.messages.AbortCause.TheVariants.{Need, Held, Epoch as Epochs}
use Rattle.ic_base.specs.declared.record.Record.{Record}
use Rattle.ic_base.specs.declared.record.Record.TheVariants.{Take, TakeWhole, Input, Value, Outcome, Released, Shown, Checkpoint, Epoch, Decided}

abbrev pub cause_length : Option AbortCause → ℕ
cause_length None = 1
cause_length (Some (Need line)) = 5
cause_length (Some (Held holder n)) = 10
cause_length (Some (Epochs old present)) = 17

-- the bytes of a record
abbrev pub record_length : Record → ℕ
record_length (Take from k stamp) = 18
record_length (TakeWhole from k stamp handler args) = 20 + 8 * length args
record_length (Input stamp handler args) = 11 + 8 * length args
record_length (Value n place session value) = 35
record_length (Outcome stamp n abort) = 17 + cause_length abort
record_length (Released to k) = 10
record_length (Shown m) = 9
record_length (Checkpoint image) = 5 + length image
record_length (Epoch epoch) = 9
record_length (Decided stamp c n writes) = 20 + 10 * length writes

-- the position behind these records
abbrev pub end_of : List Record → ℕ
end_of records = sum_by record_length records
