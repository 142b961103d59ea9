use Rattle.std.proofs.Common.{◌∙◌, sym, ap, subst}
use Rattle.def_step.specs.Pcom.{Gives, Forces, Checkpoints, Resends, Emits}
use Rattle.ic_node.specs.Calling.{call_of}
use Rattle.ic_node.specs.PcomStep.{IsMade, as_packets}
use Rattle.ic_node.proofs.PcomMade.{ok_this, err_this, plain_is, input_is, resend_is}
use Rattle.ic_node.proofs.pcom_step.stepped.Goals as goal

pub returns-in-Gives : goal.returns-in-Gives
returns-in-Gives g c =
    let p = c.args.pcom.now in
    let program = c.args.program.now in
    let e = c.input.ensures in
    let n = c.args.steps.now in
    subst (λ k. IsMade program p k c.input.new.self n n c.of_packet.result) (sym (ap call_of c.in-Gives.is))
    (subst (λ r. IsMade program p (Gives c.in-Gives.handler c.in-Gives.args) c.input.new.self n n r) (sym (c.of_packet.ensures ∙ ap as_packets c.of_input.ensures))
    (input_is program p c.input.new.self c.in-Gives.handler c.in-Gives.args n c.input.result e.step e.log e.crash e.calls e.refused))

pub returns-in-Forces : goal.returns-in-Forces
returns-in-Forces g c =
    let p = c.args.pcom.now in
    let program = c.args.program.now in
    let e = c.force.ensures in
    let n = c.args.steps.now in
    subst (λ k. IsMade program p k c.force.new.self n n c.of_packet-in-Forces.result) (sym (ap call_of c.in-Forces.is))
    (subst (λ r. IsMade program p Forces c.force.new.self n n r) (sym c.of_packet-in-Forces.ensures)
    (plain_is program p c.force.new.self Forces n c.force.result tt (ok_this program p Forces c.force.new.self c.force.result e.step) e.log (e.crash program) (e.calls program) (err_this program p Forces c.force.new.self c.force.result e.refused)))

pub returns-in-Checkpoints : goal.returns-in-Checkpoints
returns-in-Checkpoints g c =
    let p = c.args.pcom.now in
    let program = c.args.program.now in
    let e = c.checkpoint.ensures in
    let n = c.args.steps.now in
    subst (λ k. IsMade program p k c.checkpoint.new.self n n c.of_packet-in-Checkpoints.result) (sym (ap call_of c.in-Checkpoints.is))
    (subst (λ r. IsMade program p Checkpoints c.checkpoint.new.self n n r) (sym c.of_packet-in-Checkpoints.ensures)
    (plain_is program p c.checkpoint.new.self Checkpoints n c.checkpoint.result tt (ok_this program p Checkpoints c.checkpoint.new.self c.checkpoint.result e.step) e.log (e.crash program) (e.calls program) (err_this program p Checkpoints c.checkpoint.new.self c.checkpoint.result e.refused)))

pub returns-in-Emits : goal.returns-in-Emits
returns-in-Emits g c =
    let p = c.args.pcom.now in
    let program = c.args.program.now in
    let e = c.emit.ensures in
    let n = c.args.steps.now in
    subst (λ k. IsMade program p k c.emit.new.self n n c.of_packet-in-Emits.result) (sym (ap call_of c.in-Emits.is))
    (subst (λ r. IsMade program p Emits c.emit.new.self n n r) (sym c.of_packet-in-Emits.ensures)
    (plain_is program p c.emit.new.self Emits n c.emit.result tt (ok_this program p Emits c.emit.new.self c.emit.result e.step) e.log (e.crash program) (e.calls program) (err_this program p Emits c.emit.new.self c.emit.result e.refused)))

pub returns-in-Resends : goal.returns-in-Resends
returns-in-Resends g c =
    let p = c.args.pcom.now in
    let program = c.args.program.now in
    let n = c.args.steps.now in
    let law = g.met.D.Disk in
    subst (λ k. IsMade program p k p n n c.of_packet-in-Resends.result) (sym (ap call_of c.in-Resends.is))
    (subst (λ r. IsMade program p Resends p n n r) (sym (c.of_packet-in-Resends.ensures ∙ ap as_packets c.of_memory.ensures))
    (resend_is law.only_now law.keeping_tells program p n c.requires.open c.resend.result (ok_this program p Resends p c.resend.result c.resend.ensures.step)))
