-- The orders of a schedule with a standby that may come.
use Rattle.std.specs.Prelude.{⊤}
use Rattle.ic_base.specs.declared.scenario.Program.{Program}
use Rattle.def_standby.specs.declared.orders.Order.{Order}
use Rattle.def_standby.specs.declared.orders.Order.TheVariants.{Ship, TakeOver, Run}
use Rattle.def_syntax.specs.Allowed.{IsAllowed}

abbrev pub IsAllowedOrder : Program → Order → Type 0
IsAllowedOrder p (Run e) = IsAllowed p e
IsAllowedOrder p o = ⊤
