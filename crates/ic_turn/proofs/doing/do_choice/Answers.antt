use Rattle.std.proofs.Common.{◌∙◌, sym, ap, subst, Some, List, Option}
use Rattle.ic_base.specs.declared.events.Stop.{Stop}
use Rattle.ic_base.specs.declared.record.Record.{Record}
use Rattle.ic_node.specs.Meeting.{CrashAdds}
use Rattle.ic_disk.specs.Torns.{torn}
use Rattle.ic_node.specs.Views.{com_of, disk_of}
use Rattle.ic_turn.specs.Choices.{choice_of}
use Rattle.ic_turn.specs.Doing.{choice_adds, FailsToDoChoice}
use Rattle.ic_turn.proofs.Works.{tells-choice}
use Rattle.ic_turn.proofs.Refusing.{adds-are, fails-at_work, fails-to_tell}
use Rattle.ic_turn.specs.Progresses.{received_of, packets_of}
use Rattle.ic_work.specs.Components.{Works, refusal_of}
use Rattle.ic_work.proofs.Rests.{kept-itself, component-rests}
use Rattle.ic_turn.proofs.doing.do_choice.Goals as goal

pub returns-in_default-clause-disk : goal.returns-in_default-clause-disk
returns-in_default-clause-disk g c = kept-itself (torn g.D.Disk) (disk_of c.args.x.now)

pub returns-in_default-clause-crash : goal.returns-in_default-clause-crash
returns-in_default-clause-crash g c =
    let law = g.met.D.Disk in
    component-rests g.D.Disk law.only_now law.keeping_tells c.args.x.now (choice_adds c.args.program.now (Some (choice_of c.args.choice.now)) c.args.x.now) c.requires.going

pub returns-in-Ok-clause-step : goal.returns-in-Ok-clause-step
returns-in-Ok-clause-step g c =
    let x = c.args.x.now in
    let W : Option Stop → Type 0 = λ z. Works c.args.program.now x z c.work_of-work.result c.does_work.new.x c.in-Ok.done in
    let told = c.tell.ensures in
    tells-choice c.args.program.now c.args.fingerprint.now (choice_of c.args.choice.now) x c.does_work.new.x c.work_of-work.result c.in-Ok.done c.requires.own c.work_of-work.ensures c.requires.there c.requires.has (subst W (c.stop_of.ensures (com_of x)) c.in-Ok.ensures.step) c.requires.logs
    c.args.progress.now c.tell.new.self c.in-Some.more c.in-Some.ensures.admitted.0 c.tell.result told.puts told.answers told.shown told.received told.packets told.played c.in-Ok.ensures.step.played told.events told.turns

pub returns-in-Ok-clause-crash : goal.returns-in-Ok-clause-crash
returns-in-Ok-clause-crash g c =
    let C : List Record → Type 0 = λ rs. CrashAdds rs c.args.x.now c.does_work.new.x in
    subst C (adds-are c.args.program.now (choice_of c.args.choice.now) c.args.x.now c.work_of-work.result c.work_of-work.ensures) c.does_work.ensures.crash

pub returns-in-Ok-clause-refused : goal.returns-in-Ok-clause-refused
returns-in-Ok-clause-refused g c =
    let x = c.args.x.now in
    fails-to_tell g.D.Disk c.args.program.now c.args.fingerprint.now (choice_of c.args.choice.now) x c.does_work.new.x c.work_of-work.result c.work_of-work.ensures c.stop_of.result (c.stop_of.ensures (com_of x)) (received_of c.args.progress.now) (packets_of c.args.progress.now) c.in-Ok.done c.in-Ok.ensures.step c.tell.result
    c.tell.ensures.refused

pub returns-in-Err-clause-crash : goal.returns-in-Err-clause-crash
returns-in-Err-clause-crash g c =
    let C : List Record → Type 0 = λ rs. CrashAdds rs c.args.x.now c.does_work.new.x in
    subst C (adds-are c.args.program.now (choice_of c.args.choice.now) c.args.x.now c.work_of-work.result c.work_of-work.ensures) c.does_work.ensures.crash

pub returns-in-Err-clause-refused : goal.returns-in-Err-clause-refused
returns-in-Err-clause-refused g c =
    let x = c.args.x.now in
    let why = c.in-Err.why in
    subst (FailsToDoChoice g.D.Disk c.args.program.now c.args.fingerprint.now (choice_of c.args.choice.now) x (received_of c.args.progress.now) (packets_of c.args.progress.now) c.does_work.new.x) (sym (c.refusal.ensures ∙ ap (λ z. refusal_of z why) c.com-c.ensures))
    (fails-at_work g.D.Disk c.args.program.now c.args.fingerprint.now (choice_of c.args.choice.now) x c.does_work.new.x c.work_of-work.result c.work_of-work.ensures c.stop_of.result (c.stop_of.ensures (com_of x)) (received_of c.args.progress.now) (packets_of c.args.progress.now) why c.in-Err.ensures.refused)
