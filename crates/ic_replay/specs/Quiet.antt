-- Records that play no handler.
use Rattle.std.specs.Prelude.{Bool, true, false, ◌&&◌, cond, List, [], ◌∷◌, is_some}
use Rattle.ic_base.specs.declared.record.Record.{Record}
use Rattle.ic_base.specs.declared.record.Record.TheVariants.{Take, TakeWhole, Input, Value, Outcome}
use Rattle.def_step.specs.Replay.{waits_for}

abbrev pub ends_none : Record → Bool
ends_none (Outcome stamp n abort) = false
ends_none _ = true

-- the record plays no handler
abbrev pub is_quiet : Record → Bool
is_quiet (Take from k stamp) = false
is_quiet (TakeWhole from k stamp handler args) = false
is_quiet (Input stamp handler args) = false
is_quiet (Value n place session value) = false
is_quiet (Outcome stamp n abort) = false
is_quiet _ = true

-- none plays a handler before one that waits
abbrev pub are_quiet : List Record → Bool
are_quiet [] = true
are_quiet (r ∷ rs) = cond (is_some (waits_for r)) true (is_quiet r && are_quiet rs)

-- the records up to and with the first that waits
abbrev pub up_to_waiting : List Record → List Record
up_to_waiting [] = []
up_to_waiting (r ∷ rs) = r ∷ cond (is_some (waits_for r)) [] (up_to_waiting rs)
