-- Whether a log has room for more records.
use Rattle.std.specs.Prelude.{ℕ, ◌+◌, nat_lt, Bool, true, false, not, ◌&&◌, List, [], ◌∷◌}
use Rattle.ic_base.specs.declared.limits.TheConstants.{LOG_BYTES}
use Rattle.ic_base.specs.declared.record.Record.{Record}
use Rattle.def_state.specs.Positions.{end_of}

abbrev pub is_empty : List Record → Bool
is_empty [] = true
is_empty (r ∷ rs) = false

-- a log of this size on its disk has no room for these records in its next batch
abbrev pub has_no_room : ℕ → List Record → Bool
has_no_room size records = not (is_empty records) && nat_lt LOG_BYTES (size + 5 + end_of records)
