use Rattle.std.proofs.Common.{◌∷◌, decimal}
use Rattle.def_client.specs.Clients.{item_of, item_words, asked_words}
use Rattle.def_report.specs.Words.{spaced}
use Rattle.ic_report.proofs.Saying.{said-note}
use Rattle.ic_report.proofs.lines.add_note_line.Goals as goal

pub returns : goal.returns
returns c =
    said-note c.args.out.now.items c.add_numbered_event.new.out.items c.extend_from_slice.new.self.items c.add_asked.new.out.items _
    (spaced (decimal c.args.number ∷ item_words c.args.program.now (item_of c.args.event.now))) (asked_words c.args.answer.now)
    c.in_ok-add_numbered_event.ensures c.in_ok-extend_from_slice.ensures.items c.in_ok-add_asked.ensures c.in_ok-push.ensures.items
