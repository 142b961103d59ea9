use Rattle.std.proofs.Common.{◌+◌, ◌≤◌, length, false}
use Rattle.std.specs.List.{AllByRecursion}
use Rattle.def_syntax.specs.Text.{lines_of, numbered}
use Rattle.def_standby.specs.Reading.{all_orders}
use Rattle.ic_plan.specs.Orders.{IsAllowedOrder}
use Rattle.ic_plan.proofs.Lines.{IsRead}
use Rattle.ic_plan.proofs.orders.read_orders.Given as goal

abbrev pub invariant-loop-line : goal.invariant-loop-line
invariant-loop-line l = record {
  near : l.number + length l.rest ≤ length l.bytes + 1;
  few : length l.orders + 1 ≤ l.number;
  read : IsRead (all_orders l.program) l.halts l.orders (numbered l.number (lines_of l.rest)) (all_orders l.program false (numbered 1 (lines_of l.bytes)));
  allowed : AllByRecursion (IsAllowedOrder l.program) l.orders;
}

abbrev pub decreases-loop-line : goal.decreases-loop-line
decreases-loop-line l = length l.rest
