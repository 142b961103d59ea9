-- What may be outstanding at a component, as the definitions have it.
use Rattle.std.specs.Prelude.{ℕ, Bool, nat_lt, Option, option_map}
use Rattle.ic_base.specs.declared.messages.ComId.{ComId}
use Rattle.def_step.specs.Settle.{is_down, has_due, buffered, has_in_hand, owes, Waits}
use Rattle.def_step.specs.World.{World, Node}
use Rattle.ic_settle.specs.declared.outstanding.Outstanding.{Outstanding}
use Rattle.ic_settle.specs.declared.outstanding.Outstanding.TheVariants.{Recovery, Output, Records, Transaction, Message}

abbrev pub test_of : World → Outstanding → Node → Bool
test_of w Recovery node = is_down node
test_of w Output node = has_due node
test_of w Records node = nat_lt 0 (buffered node)
test_of w Transaction node = has_in_hand node
test_of w Message node = owes w node

-- a stamp with the component that waits at it
abbrev pub waits_of : Option (ℕ × ComId) → Option Waits
waits_of o = option_map (λ x. record { stamp = x.0; who = x.1 }) o
