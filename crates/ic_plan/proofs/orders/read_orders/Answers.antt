use Rattle.std.proofs.Common.{ap, sym, subst, ◌∙◌, List, arith}
use Rattle.std.specs.List.{AllByRecursion}
use Rattle.def_standby.specs.declared.orders.Order.{Order}
use Rattle.def_standby.specs.Reading.{all_orders}
use Rattle.def_syntax.specs.Text.{numbered}
use Rattle.ic_plan.specs.Orders.{IsAllowedOrder}
use Rattle.ic_plan.proofs.Lines.{in_front, order_lines, read_more, read_all, read_refused, all_with, one_more}
use Rattle.ic_plan.proofs.orders.read_orders.Goals as goal

pub returns-in-Err-clause-refused : goal.returns-in-Err-clause-refused
returns-in-Err-clause-refused c =
    let p = c.args.program.now in
    let read = c.loop-line.invariant.read ∙ ap (λ ls. in_front c.loop-line.orders (all_orders p c.loop-line.halts (numbered c.loop-line.number ls))) c.in-Some.ensures.line in
    rw (c.refused_at.ensures.line, c.refused_at.ensures.cause) (read_refused (order_lines p) c.loop-line.halts c.loop-line.number _ _ c.loop-line.orders c.in-Err.cause _ c.in-Err.ensures.found read)

pub loop-line-preserved : goal.loop-line-preserved
loop-line-preserved c =
    let p = c.args.program.now in
    let read = c.loop-line.invariant.read ∙ ap (λ ls. in_front c.loop-line.orders (all_orders p c.loop-line.halts (numbered c.loop-line.number ls))) c.in-Some.ensures.line in
    let all : List Order → Type 0 = AllByRecursion (IsAllowedOrder p) in
    record {
      near = omega (arith, c.loop-line.invariant.near, c.in-Some.ensures.less);
      few = one_more c.loop-line.orders _ c.in-Ok.order c.loop-line.number c.in-Ok-add.ensures c.loop-line.invariant.few;
      read = rw c.in-Ok-add.ensures (read_more (order_lines p) c.loop-line.halts c.loop-line.number _ _ c.loop-line.orders _ c.in-Ok.halted _ c.in-Ok.ensures.found read);
      allowed = subst all (sym c.in-Ok-add.ensures) (all_with (IsAllowedOrder p) c.loop-line.orders c.in-Ok.order c.loop-line.invariant.allowed c.in-Ok.ensures.there);
    }

pub returns-clause-accepted : goal.returns-clause-accepted
returns-clause-accepted c =
    let p = c.args.program.now in
    read_all (order_lines p) c.loop-line.halts c.loop-line.orders _
    (c.loop-line.invariant.read ∙ ap (λ ls. in_front c.loop-line.orders (all_orders c.args.program.now c.loop-line.halts (numbered c.loop-line.number ls))) c.in_default.ensures.line)
