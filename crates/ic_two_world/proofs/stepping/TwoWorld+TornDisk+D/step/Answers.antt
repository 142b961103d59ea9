use Rattle.std.proofs.Common.{sym, subst}
use Rattle.std.specs.Prelude.{OnOk, IfErr}
use Rattle.def_two.specs.declared.script.What2.{What2}
use Rattle.ic_two_world.specs.Stepping.{Steps2, FailsToStep2, with_stop}
use Rattle.ic_two_world.proofs.Stepped.{on-ok, if-err, packet-done, packet-undone}
use Rattle.ic_two_world.proofs.stepping.TwoWorld+TornDisk+D.step.Goals as goal

pub returns-in-Move-clause-step : goal.returns-in-Move-clause-step
returns-in-Move-clause-step g c =
    let P : What2 → Type 0 = λ e. OnOk c.begin.result (Steps2 g.D.Disk c.args.self.now (with_stop e c.args.event.now.stop) c.begin.new.self) in
    subst P (sym c.in-Move.is) c.begin.ensures.step

pub returns-in-Deliver-clause-step : goal.returns-in-Deliver-clause-step
returns-in-Deliver-clause-step g c =
    let P : What2 → Type 0 = λ e. OnOk c.deliver_oldest.result (Steps2 g.D.Disk c.args.self.now (with_stop e c.args.event.now.stop) c.deliver_oldest.new.self) in
    subst P (sym c.in-Deliver.is) c.deliver_oldest.ensures.step

pub returns-in-Packet-clause-step : goal.returns-in-Packet-clause-step
returns-in-Packet-clause-step g c =
    let P : What2 → Type 0 = λ e. OnOk c.deliver.result (Steps2 g.D.Disk c.args.self.now (with_stop e c.args.event.now.stop) c.deliver.new.self) in
    subst P (sym c.in-Packet.is) (on-ok c.deliver.result (packet-done g.D.Disk g.met.D.Disk.keeping_tells c.args.self.now c.deliver.new.self c.deliver.ensures.same c.requires.going c.args.event.now.stop c.in-Packet.number c.requires.event.1) c.deliver.ensures.step)

pub returns-in-Packet-clause-refused : goal.returns-in-Packet-clause-refused
returns-in-Packet-clause-refused g c =
    let P : What2 → Type 0 = λ e. IfErr c.deliver.result (FailsToStep2 g.D.Disk c.args.self.now (with_stop e c.args.event.now.stop) c.deliver.new.self) in
    subst P (sym c.in-Packet.is) (if-err c.deliver.result (packet-undone g.D.Disk g.met.D.Disk.keeping_tells c.args.self.now c.deliver.new.self c.deliver.ensures.same c.requires.going c.args.event.now.stop c.in-Packet.number c.requires.event.1) c.deliver.ensures.refused)

pub returns-in-Recover-clause-step : goal.returns-in-Recover-clause-step
returns-in-Recover-clause-step g c =
    let P : What2 → Type 0 = λ e. OnOk c.recover.result (Steps2 g.D.Disk c.args.self.now (with_stop e c.args.event.now.stop) c.recover.new.self) in
    subst P (sym c.in-Recover.is) c.recover.ensures.step

pub returns-in-Resend-clause-step : goal.returns-in-Resend-clause-step
returns-in-Resend-clause-step g c =
    let P : What2 → Type 0 = λ e. OnOk c.resend.result (Steps2 g.D.Disk c.args.self.now (with_stop e c.args.event.now.stop) c.resend.new.self) in
    subst P (sym c.in-Resend.is) c.resend.ensures.step

pub returns-in-Crash-clause-step : goal.returns-in-Crash-clause-step
returns-in-Crash-clause-step g c =
    let P : What2 → Type 0 = λ e. Steps2 g.D.Disk c.args.self.now (with_stop e c.args.event.now.stop) c.crash.new.self in
    subst P (sym c.in-Crash.is) (c.crash.ensures c.args.event.now.stop c.requires.event.1)
