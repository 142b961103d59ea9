use Rattle.std.proofs.Common.{rules, ◌≡◌, ◌∙◌, IfSome, take}
use Rattle.std.specs.Io.BufRead.{take_through}
use Rattle.ic_lines.proofs.Cuts.{read_known}
use Rattle.ic_lines.proofs.reader_lines.ReaderLinesLines.next.Goals as goal

pub returns-clause-read : goal.returns-clause-read
returns-clause-read g c tells =
    let known = g.B.Read.remaining c.args.self.now.reader in
    let kept : IfSome known (λ xs. c.take_line.new.line.items ≡ take c.in-Some.room (take_through 10 xs)) = search rules in
    c.read_of.ensures.read ∙ read_known c.args.limit c.in-Some.room known c.take_line.new.line.items tells.1 kept (search rules)
