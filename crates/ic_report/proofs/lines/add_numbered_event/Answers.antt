use Rattle.std.proofs.Common.{◌∙◌, ◌++◌, ap, decimal}
use Rattle.def_client.specs.Clients.{item_words}
use Rattle.ic_report.specs.Said.{item_in}
use Rattle.ic_report.proofs.Saying.{said-behind}
use Rattle.ic_report.proofs.lines.add_numbered_event.Goals as goal

pub returns : goal.returns
returns c =
    said-behind c.args.out.now.items c.extend_from_slice.new.self.items c.add_event_in.new.out.items (decimal c.args.number) (item_words c.args.program.now (item_in c.args.form c.args.event.now))
    (c.in_ok-extend_from_slice.ensures.items ∙ ap (λ w. c.args.out.now.items ++ w) (c.as_bytes.ensures.value ∙ c.format.ensures.text))
    c.in_ok-add_event_in.ensures
