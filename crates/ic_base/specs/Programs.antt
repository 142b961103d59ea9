-- Components compared, what a program declares, and the numbers and sessions that may stand.
use Rattle.std.specs.Prelude.{ℕ, ◌==◌, nat_le, nat_lt, Bool, true, false, not, ◌&&◌, List, length, slice_get, ℤ, Option, Some, None}
use Rattle.ic_base.specs.declared.limits.TheConstants.{GREATEST_NUMBER}
use Rattle.ic_base.specs.declared.messages.ComId.{ComId}
use Rattle.ic_base.specs.declared.messages.Session.{Session}
use Rattle.ic_base.specs.declared.scenario.Component.{Component}
use Rattle.ic_base.specs.declared.scenario.Program.{Program}
use Rattle.ic_base.specs.declared.scenario.Handler.{Handler}
use Rattle.ic_base.specs.declared.messages.Kind.{Kind}
use Rattle.ic_base.specs.declared.messages.Kind.TheVariants.{Pcom, Tcom, Xcom}

abbrev pub same_com : ComId → ComId → Bool
same_com c d = c.0 == d.0

abbrev pub is_pcom : Kind → Bool
is_pcom Pcom = true
is_pcom Tcom = false
is_pcom Xcom = false

abbrev pub is_tcom : Kind → Bool
is_tcom Pcom = false
is_tcom Tcom = true
is_tcom Xcom = false

abbrev pub is_xcom : Kind → Bool
is_xcom Pcom = false
is_xcom Tcom = false
is_xcom Xcom = true

-- whether the declared component passes the test
abbrev pub declares : (Component → Bool) → Option Component → Bool
declares test None = false
declares test (Some c) = test c

abbrev pub is_a_pcom : Program → ComId → Bool
is_a_pcom program c = declares (λ d. is_pcom d.kind) (slice_get program.components c.0)

abbrev pub is_a_tcom : Program → ComId → Bool
is_a_tcom program c = declares (λ d. is_tcom d.kind) (slice_get program.components c.0)

abbrev pub is_an_xcom : Program → ComId → Bool
is_an_xcom program c = declares (λ d. is_xcom d.kind) (slice_get program.components c.0)

abbrev pub is_immediate : Program → ComId → Bool
is_immediate program c = declares (λ d. d.immediate) (slice_get program.components c.0)

abbrev pub takes_args : Option Handler → List ℤ → Bool
takes_args None args = false
takes_args (Some h) args = h.params == length args

-- the handler is one of c's own, with that number of arguments
abbrev pub has_handler : Program → ComId → ℕ → List ℤ → Bool
has_handler program c handler args = declares (λ d. takes_args (slice_get d.handlers handler) args) (slice_get program.components c.0)

-- another Pcom of the scenario, which alone may send to c
abbrev pub is_other_pcom : Program → ComId → ComId → Bool
is_other_pcom program c d = is_a_pcom program d && not (same_com c d)

abbrev pub is_number : ℕ → Bool
is_number n = nat_le 1 n && nat_le n GREATEST_NUMBER

abbrev pub session_fits : Session → Bool
session_fits s = nat_le s.epoch GREATEST_NUMBER && nat_le s.counter GREATEST_NUMBER

abbrev pub has_key : Program → ComId → ℕ → Bool
has_key program t key = declares (λ d. nat_lt key (length d.keys)) (slice_get program.components t.0)
