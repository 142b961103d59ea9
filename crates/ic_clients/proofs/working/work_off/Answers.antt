use Rattle.std.proofs.Common.{◌∙◌, ap, sym, subst, refl, arith, true, List, None, inl, inr}
use Rattle.std.specs.Prelude.{Ok}
use Rattle.ic_base.specs.declared.events.Event.{Event}
use Rattle.ic_settle.specs.Policies.{intervals_of}
use Rattle.ic_run.proofs.Nexts.{agenda_with}
use Rattle.ic_run.specs.Running.{WasCut}
use Rattle.def_client.specs.Clients.{item_of}
use Rattle.ic_world.specs.Views.{world_of}
use Rattle.ic_clients.specs.Moments.{item_pieces}
use Rattle.ic_clients.proofs.Results.{on-ok, on-ok-each, on-err}
use Rattle.ic_clients.proofs.Seeing.{happens-new, answers-other}
use Rattle.ic_clients.proofs.Worked.{worked-new, worked-noted, leads-nowhere}
use Rattle.ic_clients.proofs.working.work_off.Goals as goal

pub pursue_seen-requires-clause-may : goal.pursue_seen-requires-clause-may
pursue_seen-requires-clause-may g c = inr (c.args.event.now, c.from_ref.ensures.value, refl, c.asked.ensures.may (c.in_ok-answer.was {u = tt} ∙ ap Ok c.in-New.is))

pub returns-in-New-clause-done : goal.returns-in-New-clause-done
returns-in-New-clause-done g c =
    let event = c.args.event.now in
    let w = c.args.world.now in
    on-ok c.pursue_seen.result c.pursue_seen.ensures.done
    (λ tally p. worked-new g.K.Sink c.args.program.now (intervals_of c.args.policy.now) c.args.level (item_of event) c.args.tally c.args.front.now.taken c.pursue_seen.new.front.taken w c.pursue_seen.new.world c.args.out.now c.pursue_seen.new.out tally
    event c.from_ref.result.now c.asked.new.front.taken c.from_ref.ensures.value c.asked.ensures.same
    (happens-new (world_of w) c.args.front.now.taken event.what event.stop (sym (c.in_ok-answer.ensures {u = tt}).answer ∙ c.in-New.is)) p)

pub returns-in-New-clause-cut : goal.returns-in-New-clause-cut
returns-in-New-clause-cut g c =
    let event = c.args.event.now in
    let w = c.args.world.now in
    on-err c.pursue_seen.result c.pursue_seen.ensures.cut
    (λ cut p.
    let P : List Event → Type 0 = λ l. WasCut g.D.Disk g.K.Sink c.args.program.now (intervals_of c.args.policy.now) (item_pieces c.args.program.now c.args.level) c.args.tally.events (agenda_with l true None) w c.pursue_seen.new.world c.args.out.now c.pursue_seen.new.out cut in
    inl (event, happens-new (world_of w) c.args.front.now.taken event.what event.stop (sym (c.in_ok-answer.ensures {u = tt}).answer ∙ c.in-New.is), subst P c.from_ref.ensures.value p))

pub returns-in_default : goal.returns-in_default
returns-in_default g c =
    let law = g.met.D.Disk in
    let event = c.args.event.now in
    let w = c.args.world.now in
    let here = c.args.front.now.taken in
    let is = answers-other (world_of w) here event.what event.stop c.in_ok-answer.answer (c.in_ok-answer.ensures {u = tt}).answer c.in_default.not-New in
    record {
      done =
          on-ok-each c.note.result c.note.ensures.counts c.note.ensures.more c.note.ensures.printed
          (λ tally counts more printed. worked-noted g.K.Sink c.args.program.now (intervals_of c.args.policy.now) c.args.level (item_of event) c.args.tally here c.asked.new.front.taken w w c.args.out.now c.note.new.out tally
          c.in_ok-answer.answer is c.asked.ensures.same refl (leads-nowhere g.D.Disk law.only_now law.keeping_tells c.args.program.now w c.requires.world.made c.requires.world.going (w.placed c.requires.world.going) (omega (arith, w.plays))) counts more.0 printed);
      cut = on-err c.note.result c.note.ensures.cut (λ cut fails. inr (refl, inl (c.in_ok-answer.answer, is, fails)));
    }
