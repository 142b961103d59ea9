use Rattle.std.proofs.Common.{◌++◌, ◌∙◌, ap}
use Rattle.def_report.specs.Summaries.{kind_word}
use Rattle.ic_report.specs.Said.{plain_words}
use Rattle.ic_report.proofs.Saying.{said-ends}
use Rattle.ic_report.proofs.audits.add_valued_line.Goals as goal

pub returns : goal.returns
returns c =
    said-ends c.args.out.now.items c.extend_from_slice.new.self.items c.add_plain_words.new.out.items c.push.new.self.items
    (kind_word c.args.component.now.kind) (plain_words c.args.component.now c.args.values.now)
    (c.in_ok-extend_from_slice.ensures.items ∙ ap (λ w. c.args.out.now.items ++ w) c.kind_word.ensures)
    c.in_ok-add_plain_words.ensures c.in_ok-push.ensures.items
