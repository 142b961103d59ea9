use Rattle.std.specs.Prelude.{codes}
use Rattle.ic_report.specs.Said.{put_words}
use Rattle.ic_report.proofs.Saying.{said-ends}
use Rattle.ic_report.proofs.lines.add_put_line.Goals as goal

pub returns : goal.returns
returns c =
    said-ends c.args.out.now.items c.extend_from_slice.new.self.items c.add_put_words.new.out.items c.push.new.self.items (codes "put") (put_words c.args.program.now c.args.number c.args.packet.now)
    c.in_ok-extend_from_slice.ensures.items c.in_ok-add_put_words.ensures c.in_ok-push.ensures.items
