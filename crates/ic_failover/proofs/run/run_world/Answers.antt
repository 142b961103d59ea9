use Rattle.std.proofs.Common.{inl, inr}
use Rattle.std.proofs.lemmas.Result.{IfErr-weaker}
use Rattle.ic_failover.specs.Carrying.{stage_of}
use Rattle.ic_failover.specs.declared.side.Side.TheVariants.{Stands}
use Rattle.ic_failover.proofs.Told.{begins_there, run_whole, run_unsummed, own_first, fresh_first}
use Rattle.ic_failover.proofs.run.run_world.Goals as goal

pub pursue_orders-requires-clause-own : goal.pursue_orders-requires-clause-own
pursue_orders-requires-clause-own g c = own_first c.args.texts.now.program c.args.texts.now.who c.in_ok-standby.standby c.in_ok-standby.ensures.first c.in_ok-standby.ensures.which

pub returns-in-Err-clause-short : goal.returns-in-Err-clause-short
returns-in-Err-clause-short g c =
    let s = c.in_ok-standby.standby in
    let first = fresh_first c.args.texts.now.program c.args.texts.now.who s c.in_ok-standby.ensures.first in
    inl (record {
      cut = c.in-Err.cut;
      told = c.why_of_cut.ensures;
      short = record {
        first = stage_of c.args.world.now (Stands s) c.none.result c.args.out.now;
        begins = begins_there g.K.Sink c.args.texts.now c.args.world.now c.pursue_orders.new.world c.args.out.now c.pursue_orders.new.out c.pursue_orders.new.out (Stands s) c.none.result first c.none.ensures.counts c.none.ensures.first;
        was = c.in-Err.ensures.cut;
      };
    })

pub returns-clause-done : goal.returns-clause-done
returns-clause-done g c =
    let s = c.in_ok-standby.standby in
    run_whole g.K.Sink c.args.texts.now c.args.world.now c.pursue_orders.new.world c.args.out.now c.pursue_orders.new.out c.conclude.new.out (Stands s) c.none.result
    (fresh_first c.args.texts.now.program c.args.texts.now.who s c.in_ok-standby.ensures.first) c.none.ensures.counts c.none.ensures.first c.in-Ok.done.0 c.in-Ok.done.1 c.in-Ok.ensures.done c.conclude.result c.conclude.ensures.printed c.conclude.ensures.few

pub returns-clause-short : goal.returns-clause-short
returns-clause-short g c =
    let s = c.in_ok-standby.standby in
    IfErr-weaker c.conclude.result _ _ (λ why p. inr (inl p))
    (run_unsummed g.K.Sink c.args.texts.now c.args.world.now c.pursue_orders.new.world c.args.out.now c.pursue_orders.new.out c.conclude.new.out (Stands s) c.none.result
    (fresh_first c.args.texts.now.program c.args.texts.now.who s c.in_ok-standby.ensures.first) c.none.ensures.counts c.none.ensures.first c.in-Ok.done.0 c.in-Ok.done.1 c.in-Ok.ensures.done c.conclude.result c.conclude.ensures.refused)
