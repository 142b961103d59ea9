use Rattle.std.proofs.Common.{◌++◌, ◌∙◌, ap}
use Rattle.std.specs.Prelude.{codes, if◌then◌else◌}
use Rattle.ic_report.specs.Said.{showing_words}
use Rattle.ic_report.proofs.Saying.{said-ends}
use Rattle.ic_report.proofs.lines.add_showing_line.Goals as goal

pub returns : goal.returns
returns c =
    said-ends c.args.out.now.items c.extend_from_slice.new.self.items c.add_showing_words.new.out.items c.push.new.self.items (if c.args.before then codes "again" else codes "out") (showing_words c.args.program.now c.args.name.now c.args.output.now)
    (c.in_ok-extend_from_slice.ensures.items ∙ ap (λ w. c.args.out.now.items ++ w) c.showing_word.ensures) c.in_ok-add_showing_words.ensures c.in_ok-push.ensures.items
