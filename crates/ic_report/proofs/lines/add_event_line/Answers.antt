use Rattle.std.proofs.Common.{◌∷◌, ◌∙◌, ◌++◌, ap, sym, decimal}
use Rattle.std.specs.Prelude.{codes}
use Rattle.def_client.specs.Clients.{item_words}
use Rattle.def_report.specs.Words.{spaced, line}
use Rattle.ic_report.specs.Said.{said, item_in}
use Rattle.ic_report.proofs.Saying.{said-event, answer-first}
use Rattle.ic_report.proofs.lines.add_event_line.Goals as goal

pub returns : goal.returns
returns c =
    let first = answer-first c.args.program.now c.args.trace.now.answer in
    let front = spaced (decimal c.args.number ∷ item_words c.args.program.now (item_in c.args.form c.args.trace.now.event)) in
    said-event c.args.out.now.items c.add_numbered_event.new.out.items c.push.new.self.items c.add_answer.new.out.items _
    front first.0 first.1
    c.in_ok-add_numbered_event.ensures
    c.in_ok-push.ensures.items
    (c.in_ok-add_answer.ensures ∙ ap (λ ws. said c.push.new.self.items ws) first.2)
    c.in_ok-push-2.ensures.items
    ∙ ap (λ ws. c.args.out.now.items ++ (front ++ codes ": " ++ line ws)) (sym first.2)
