-- What is kept beside the world: a standby until it has taken over, and how many records were shipped.
use Rattle.std.specs.Prelude.{◌≡◌, ⊤, ℕ, Some, None}
use Rattle.ic_base.specs.declared.messages.ComId.{ComId}
use Rattle.ic_base.specs.declared.scenario.Program.{Program}
use Rattle.def_failover.specs.Orders as orders
use Rattle.def_standby.specs.Standbys.{Arises, first_standby}
use Rattle.ic_standby.specs.Views.{standby_of, com_of}
use Rattle.ic_standby.specs.declared.standby.Standby.{Standby}
use Rattle.ic_failover.specs.declared.side.Side.{Side}
use Rattle.ic_failover.specs.declared.side.Side.TheVariants.{Stands, Gone}

pub record Beside : Type 0 where
  pub side : orders.Side
  pub shipped : ℕ

abbrev pub side_of : Side → orders.Side
side_of (Stands s) = Some (standby_of s)
side_of (Gone shipped) = None

abbrev pub shipped_of : Side → ℕ
shipped_of (Stands s) = (standby_of s).have
shipped_of (Gone shipped) = shipped

abbrev pub beside_of : Side → Beside
beside_of x = record { side = side_of x; shipped = shipped_of x }

abbrev pub standing : Standby → Beside
standing s = record { side = Some (standby_of s); shipped = (standby_of s).have }

-- a standby that has played nothing
abbrev pub first_beside : Program → ComId → Beside
first_beside program c = record { side = Some (first_standby program c); shipped = 0 }

-- the standby is one of c, and shipments made its state
abbrev pub IsOwn : Program → ComId → Side → Type 0
IsOwn program c (Stands s) = (com_of s ≡ c) × Arises program c (standby_of s).state
IsOwn program c (Gone shipped) = ⊤
