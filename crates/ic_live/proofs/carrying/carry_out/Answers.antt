use Rattle.std.proofs.Common.{sym, subst, List, Option, option_map}
use Rattle.ic_base.specs.declared.messages.ComId.{ComId}
use Rattle.ic_base.specs.declared.messages.Packet.{Packet}
use Rattle.ic_node.specs.Meeting.{CrashAdds}
use Rattle.ic_node.specs.Views.{com_of, Tells}
use Rattle.ic_turn.specs.Choices.{choice_of}
use Rattle.ic_turn.specs.Doing.{choice_adds, standing_of}
use Rattle.ic_turn.specs.Standings.{DoesOne}
use Rattle.ic_turn.specs.declared.choice.Choice.{Choice}
use Rattle.ic_work.proofs.Rests.{component-rests}
use Rattle.ic_live.specs.Carrying.{MayDo, CarriesOut}
use Rattle.ic_live.specs.Ends.{MayPush}
use Rattle.ic_live.proofs.Carried.{carried-none, none-next}
use Rattle.ic_live.proofs.carrying.carry_out.Goals as goal

pub do_choice-requires-clause-own : goal.do_choice-requires-clause-own
do_choice-requires-clause-own g c =
    let M : Option Choice → Type 0 = λ o. MayDo (com_of c.args.x.now) (option_map choice_of o) in
    (subst M c.in-Some.is c.requires.own).0

pub do_choice-requires-clause-stop : goal.do_choice-requires-clause-stop
do_choice-requires-clause-stop g c =
    let M : Option Choice → Type 0 = λ o. MayDo (com_of c.args.x.now) (option_map choice_of o) in
    (subst M c.in-Some.is c.requires.own).1

pub returns-in_default-clause-step : goal.returns-in_default-clause-step
returns-in_default-clause-step g c =
    let C : Option Choice → Type 0 = λ o. CarriesOut c.args.program.now c.args.fingerprint.now c.args.peers.now (option_map choice_of o) c.args.x.now c.args.progress.now c.args.outs.now.items c.args.x.now c.args.progress.now c.args.outs.now.items in
    subst C (sym (none-next c.args.next.now c.in_default.not-Some)) (carried-none c.args.program.now c.args.fingerprint.now c.args.peers.now c.args.x.now c.args.progress.now c.args.outs.now.items c.requires.going)

pub returns-in_default-clause-crash : goal.returns-in_default-clause-crash
returns-in_default-clause-crash g c =
    let law = g.met.D.Disk in
    component-rests g.D.Disk law.only_now law.keeping_tells c.args.x.now (choice_adds c.args.program.now (option_map choice_of c.args.next.now) c.args.x.now) c.requires.going

pub push_all-requires-clause-once : goal.push_all-requires-clause-once
push_all-requires-clause-once g c honest =
    let x = c.args.x.now in
    let D : Option Choice → Type 0 = λ o. DoesOne c.args.program.now c.args.fingerprint.now (com_of x) (option_map choice_of o) (Tells x) c.in-Ok.puts (standing_of x c.args.progress.now) (standing_of c.do_choice.new.x c.do_choice.new.progress) in
    let may = c.requires.once honest c.in-Ok.puts (standing_of c.do_choice.new.x c.do_choice.new.progress) (subst D (sym c.in-Some.is) c.in-Ok.ensures.step.does) in
    let M : ComId × List Packet → Type 0 = λ z. MayPush z.0 c.args.peers.now c.args.outs.now.items z.1 in
    subst M (λ i. (sym c.com-c.ensures i, sym c.as_slice.ensures i)) may

pub returns-in-Ok-clause-crash : goal.returns-in-Ok-clause-crash
returns-in-Ok-clause-crash g c =
    let A : Option Choice → Type 0 = λ o. CrashAdds (choice_adds c.args.program.now (option_map choice_of o) c.args.x.now) c.args.x.now c.do_choice.new.x in
    subst A (sym c.in-Some.is) c.do_choice.ensures.crash

pub returns-in-Err-clause-crash : goal.returns-in-Err-clause-crash
returns-in-Err-clause-crash g c =
    let A : Option Choice → Type 0 = λ o. CrashAdds (choice_adds c.args.program.now (option_map choice_of o) c.args.x.now) c.args.x.now c.do_choice.new.x in
    subst A (sym c.in-Some.is) c.do_choice.ensures.crash
