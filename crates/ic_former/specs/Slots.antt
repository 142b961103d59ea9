-- The slots of a new log, one batch after the other.
use Rattle.std.specs.Prelude.{ℕ, Bool, ◌&&◌, nat_lt, cond, List, [], ◌∷◌, ◌++◌, length}
use Rattle.ic_base.specs.declared.limits.TheConstants.{SLOTS}

-- with a slot for the batch at this gate, if it ends with a checkpoint and a slot is left
abbrev pub with_slot : Bool → ℕ → List ℕ → List ℕ
with_slot ends gate slots = cond (ends && nat_lt (length slots) SLOTS) (slots ++ gate ∷ []) slots
