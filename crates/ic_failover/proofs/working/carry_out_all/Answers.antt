use Rattle.std.proofs.Common.{refl, ap, subst, arith, List, ◌<◌, length, get_or}
use Rattle.std.proofs.lemmas.List.{take_all}
use Rattle.std.proofs.lemmas.Result.{err_from_is_err_and}
use Rattle.def_standby.specs.declared.orders.Order.{Order}
use Rattle.ic_failover.specs.Carrying.{Carries, CarriesAll, FailsToCarry, stage_of}
use Rattle.ic_failover.proofs.Carried.{carries_further, fails_at, goes_behind}
use Rattle.ic_failover.proofs.working.carry_out_all.Goals as goal

pub loop-order-init : goal.loop-order-init
loop-order-init g c = (refl, c.requires.world, c.requires.own)

pub carry_out-requires-clause-world : goal.carry_out-requires-clause-world
carry_out-requires-clause-world g c = c.loop-order.invariant.1

pub carry_out-requires-clause-own : goal.carry_out-requires-clause-own
carry_out-requires-clause-own g c = c.loop-order.invariant.2

pub loop-order-preserved : goal.loop-order-preserved
loop-order-preserved g c =
    let r = c.args.texts.now in
    let n = c.loop-order.order-index in
    let a = stage_of c.args.world.now c.args.side c.args.tally c.args.out.now in
    let m = stage_of c.loop-order.world c.loop-order.now.0 c.loop-order.now.1 c.loop-order.out in
    let b = stage_of c.carry_out.new.world c.in_ok-now.now.0 c.in_ok-now.now.1 c.carry_out.new.out in
    let P : Order → Type 0 = λ o. Carries g.K.Sink r o m b in
    let Q : List Order → Type 0 = λ l. Carries g.K.Sink r (get_or l n c.order-item.result) m b in
    let within : n < length r.orders.orders = subst (λ (l : List Order). n < length l) c.as_slice-order-items.ensures c.loop-order-test.true in (
      carries_further g.K.Sink r r.orders.orders n c.order-item.result a m b within c.loop-order.invariant.0 (subst Q c.as_slice-order-items.ensures (subst P c.order-item.is c.in_ok-now.ensures.done)),
      goes_behind g.K.Sink r m b c.order-item.result c.in_ok-now.ensures.done c.loop-order.invariant.1,
      c.in_ok-now.ensures.own,
    )

pub returns-in_err-now-clause-cut : goal.returns-in_err-now-clause-cut
returns-in_err-now-clause-cut g c =
    let r = c.args.texts.now in
    let n = c.loop-order.order-index in
    let p = err_from_is_err_and c.from_residual.result c.from_residual.ensures.1 in
    let a = stage_of c.args.world.now c.args.side c.args.tally c.args.out.now in
    let m = stage_of c.loop-order.world c.loop-order.now.0 c.loop-order.now.1 c.loop-order.out in
    let P : Order → Type 0 = λ o. FailsToCarry g.D.Disk g.K.Sink r o m c.carry_out.new.world c.carry_out.new.out c.in_err-now.field-0.0 in
    let Q : List Order → Type 0 = λ l. FailsToCarry g.D.Disk g.K.Sink r (get_or l n c.order-item.result) m c.carry_out.new.world c.carry_out.new.out c.in_err-now.field-0.0 in
    let within : n < length r.orders.orders = subst (λ (l : List Order). n < length l) c.as_slice-order-items.ensures c.loop-order-test.true in
    rw (p.1, p.2)
    (fails_at g.D.Disk g.K.Sink r n c.order-item.result a m c.carry_out.new.world c.carry_out.new.out c.in_err-now.field-0.0 within c.loop-order.invariant.0 (subst Q c.as_slice-order-items.ensures (subst P c.order-item.is c.in_err-now.ensures.cut)))

pub returns-clause-done : goal.returns-clause-done
returns-clause-done g c =
    let r = c.args.texts.now in
    let a = stage_of c.args.world.now c.args.side c.args.tally c.args.out.now in
    let m = stage_of c.loop-order.world c.loop-order.now.0 c.loop-order.now.1 c.loop-order.out in
    let P : List Order → Type 0 = λ os. CarriesAll g.K.Sink r os a m in
    subst P (take_all c.loop-order.order-index r.orders.orders (omega (arith, ap length c.as_slice-order-items.ensures, c.loop-order-test.false))) c.loop-order.invariant.0
