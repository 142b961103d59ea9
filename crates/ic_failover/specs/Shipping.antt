-- An order that is answered with no step of the world; and why a shipment ends a run.
use Rattle.std.specs.Prelude.{◌≡◌, ⊤, ◌+◌, ◌-◌, drop}
use Rattle.std.specs.List.{AllByRecursion}
use Rattle.ic_base.specs.declared.messages.ComId.{ComId}
use Rattle.ic_base.specs.declared.refusals.WorldRefused.TheVariants as refused
use Rattle.ic_base.specs.declared.scenario.Program.{Program}
use Rattle.def_failover.specs.Orders.{Side, had_by, turn}
use Rattle.def_failover.specs.declared.note.Note.{Note}
use Rattle.def_failover.specs.declared.note.Note.TheVariants.{Bad}
use Rattle.def_rounds.specs.Rounds.{Answers}
use Rattle.def_run.specs.CoreSteps.{forced_of}
use Rattle.def_standby.specs.declared.orders.Order.{Order}
use Rattle.def_standby.specs.declared.orders.Order.TheVariants.{Ship}
use Rattle.def_step.specs.World.{World, node_at}
use Rattle.ic_failover.specs.Sides.{Beside}
use Rattle.ic_run.specs.declared.running.Cut.{Cut}
use Rattle.ic_run.specs.declared.running.Cut.TheVariants as cuts
use Rattle.ic_wire.specs.Placed.{IsCounted}

-- the answer is that of the definition; by a shipment as many more records were shipped as the standby then has
pub record IsAnswered (program : Program) (c : ComId) (w : World) (o : Order) (a : Beside) (note : Note) (b : Beside) : Type 0 where
  pub turn_is : turn program c w a.side o ≡ Answers note b.side
  pub plays : note ≡ Bad → ⊥
  pub shipped : b.shipped ≡ a.shipped + (had_by b.side - had_by a.side)

-- Why nothing is shipped: the records behind those that the standby has don't play, if their numbers are such as a log has them; or
-- memory is wanting.
abbrev pub FailsToShip : Program → ComId → World → Side → Cut → Type 0
FailsToShip program c w side (cuts.Refused why) = (why ≡ refused.Bad c 0) × (AllByRecursion IsCounted (drop (had_by side) (forced_of (node_at w c))) → (behind : Side) × (turn program c w side Ship ≡ Answers Bad behind))
FailsToShip program c w side cuts.Print = ⊥
FailsToShip program c w side cuts.Memory = ⊤
