use Rattle.std.proofs.Common.{◌∙◌, refl, sym, ap, subst, Some, Ok, Err}
use Rattle.def_two.specs.Chief.{Call, Begins, Hears}
use Rattle.ic_gate.specs.declared.refusals.StepRefused.TheVariants as step
use Rattle.ic_seat.specs.Seats.{call_of}
use Rattle.ic_seat.specs.Steps.{StepsOver}
use Rattle.ic_seat.specs.declared.seat.Seat.TheVariants as seats
use Rattle.ic_seat.proofs.Stepped.{chief_steps, chief_resends}
use Rattle.ic_seat.proofs.steps.chief_step.Goals as goal

pub returns-in-Begins : goal.returns-in-Begins
returns-in-Begins g c =
    let old = c.args.chief.now in
    let new = c.begin.new.self in
    let e = c.begin.ensures in
    let P : Call → Type 0 = λ k. StepsOver {D = g.row.D.Denot} {d = g.D.Disk} (seats.Chief old) k (seats.Chief new) c.begin.result in
    subst P (ap call_of (sym c.in-Begins.is)) (chief_steps {D = g.row.D.Denot} {d = g.D.Disk} old new (Begins c.in-Begins.m) e.log c.begin.result (λ told. c.size.ensures.of_file told c.requires.open ∙ ap Some c.size.ensures.value) e.crash e.calls e.step e.refused)

pub returns-in-Hears : goal.returns-in-Hears
returns-in-Hears g c =
    let old = c.args.chief.now in
    let new = c.on_packet.new.self in
    let e = c.on_packet.ensures in
    let P : Call → Type 0 = λ k. StepsOver {D = g.row.D.Denot} {d = g.D.Disk} (seats.Chief old) k (seats.Chief new) c.on_packet.result in
    subst P (ap call_of (sym c.in-Hears.is)) (chief_steps {D = g.row.D.Denot} {d = g.D.Disk} old new (Hears c.in-Hears.p) e.log c.on_packet.result (λ told. c.size.ensures.of_file told c.requires.open ∙ ap Some c.size.ensures.value) e.crash e.calls e.step e.refused)

pub returns-in-Ok : goal.returns-in-Ok
returns-in-Ok g c =
    let x = c.args.chief.now in
    let law = g.met.D.Disk in
    let P : Call → Type 0 = λ k. StepsOver {D = g.row.D.Denot} {d = g.D.Disk} (seats.Chief x) k (seats.Chief x) (Ok c.in-Ok.puts) in
    subst P (ap call_of (sym c.in-Resends.is)) (chief_resends {D = g.row.D.Denot} {d = g.D.Disk} x c.requires.open law.only_now law.keeping_tells (λ told. c.size.ensures.of_file told c.requires.open ∙ ap Some c.size.ensures.value) (Ok c.in-Ok.puts) (c.in-Ok.ensures {u = tt}) tt)

pub returns-in-Err : goal.returns-in-Err
returns-in-Err g c =
    let x = c.args.chief.now in
    let law = g.met.D.Disk in
    let P : Call → Type 0 = λ k. StepsOver {D = g.row.D.Denot} {d = g.D.Disk} (seats.Chief x) k (seats.Chief x) (Err step.Memory) in
    subst P (ap call_of (sym c.in-Resends.is)) (chief_resends {D = g.row.D.Denot} {d = g.D.Disk} x c.requires.open law.only_now law.keeping_tells (λ told. c.size.ensures.of_file told c.requires.open ∙ ap Some c.size.ensures.value) (Err step.Memory) tt refl)
