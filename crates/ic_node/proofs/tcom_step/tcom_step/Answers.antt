use Rattle.std.proofs.Common.{sym, subst}
use Rattle.std.proofs.Math.Logic.{∥∥₁_map}
use Rattle.std.specs.Prelude.{Err}
use Rattle.def_step.specs.Pcom.{Gets}
use Rattle.def_step.specs.World.{Serves}
use Rattle.ic_tcom.specs.Views.{component_of, com_of, disk_of}
use Rattle.ic_node.specs.Steps.{StepsOver}
use Rattle.ic_node.proofs.TcomStep.{served_so, untold_so, unserved_so, tcom_fit}
use Rattle.ic_node.proofs.tcom_step.tcom_step.Goals as goal

pub returns-in-Ok-told-clause-step : goal.returns-in-Ok-told-clause-step
returns-in-Ok-told-clause-step g c =
    let e = c.in-Ok.ensures {u = tt} in
    served_so c.args.program.now c.args.tcom.now c.args.p.now c.args.number c.on_packet.new.self c.in-Ok.answer c.in-Ok-told.done e.step e.log e.crash e.calls (c.in-Ok-told.ensures {u = tt} (com_of c.args.tcom.now))

pub returns-in-Ok-told-clause-up : goal.returns-in-Ok-told-clause-up
returns-in-Ok-told-clause-up g c =
    let e = c.in-Ok.ensures {u = tt} in
    (e.step.is_open, e.log.same, ∥∥₁_map c.requires.fit (λ fit. tcom_fit c.args.program.now c.args.tcom.now c.args.p.now c.args.number c.on_packet.new.self c.in-Ok.answer fit c.asks_fit.ensures e.step))

pub returns-in-Err-told-clause-step : goal.returns-in-Err-told-clause-step
returns-in-Err-told-clause-step g c =
    let e = c.in-Ok.ensures {u = tt} in
    untold_so c.args.program.now c.args.tcom.now c.args.p.now c.args.number c.on_packet.new.self _ e.step.room e.step.is_open e.log e.crash e.calls

pub returns-in-Err-clause-step : goal.returns-in-Err-clause-step
returns-in-Err-clause-step g c =
    let e = c.in-Err.ensures {u = tt} in
    subst (λ w. StepsOver g.D.Disk c.args.program.now (com_of c.args.tcom.now) (Serves (component_of c.args.tcom.now)) (disk_of c.args.tcom.now) c.args.number (Gets c.args.p.now) (Serves (component_of c.on_packet.new.self)) (disk_of c.on_packet.new.self) (Err w)) (sym c.packet_refusal.ensures)
    (unserved_so c.args.program.now c.args.tcom.now c.args.p.now c.args.number c.on_packet.new.self c.in-Err.why c.requires.few c.requires.fit e.log e.crash e.calls e.refused)
