-- Which handlers a program has.
use Rattle.std.specs.Prelude.{◌≡◌, ◌<◌, ℕ, length, slice_get, Some}
use Rattle.ic_base.specs.declared.messages.ComId.{ComId}
use Rattle.ic_base.specs.declared.scenario.Component.{Component}
use Rattle.ic_base.specs.declared.scenario.Program.{Program}

-- the component is there, and has a handler of this number
abbrev pub HasHandler : Program → ComId → ℕ → Type 0
HasHandler program c handler = (x : Component) × ((slice_get program.components c.0 ≡ Some x) × (handler < length x.handlers))
