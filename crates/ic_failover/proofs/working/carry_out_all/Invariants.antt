use Rattle.std.proofs.Common.{take}
use Rattle.ic_failover.specs.Carrying.{CarriesAll, GoesOn, stage_of}
use Rattle.ic_failover.specs.Sides.{IsOwn}
use Rattle.ic_failover.proofs.working.carry_out_all.Given as goal

abbrev pub invariant-loop-order : goal.invariant-loop-order
invariant-loop-order g l =
    CarriesAll g.K.Sink l.texts (take l.order-index l.texts.orders.orders) (stage_of l.fn.world l.fn.side l.fn.tally l.fn.out) (stage_of l.world l.now.0 l.now.1 l.out) × GoesOn l.texts l.world × IsOwn l.texts.program l.texts.who l.now.0
