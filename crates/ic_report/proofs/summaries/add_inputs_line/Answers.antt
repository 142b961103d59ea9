use Rattle.std.specs.Prelude.{codes}
use Rattle.ic_report.specs.Said.{input_words}
use Rattle.ic_report.proofs.Saying.{said-ends}
use Rattle.ic_report.proofs.summaries.add_inputs_line.Goals as goal

pub returns : goal.returns
returns c =
    said-ends c.args.out.now.items c.extend_from_slice.new.self.items c.add_input_words.new.out.items c.push.new.self.items (codes "inputs") (input_words c.args.summary.now)
    c.in_ok-extend_from_slice.ensures.items c.in_ok-add_input_words.ensures c.in_ok-push.ensures.items
