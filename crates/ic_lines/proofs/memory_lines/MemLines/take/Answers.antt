use Rattle.std.proofs.Common.{rules, ◌≡◌, ◌<◌, ◌+◌, ◌∙◌, sym, ap, subst, drop, length}
use Rattle.std.specs.Io.{StopsAt}
use Rattle.std.proofs.lemmas.List.{drop-drop}
use Rattle.ic_lines.specs.Lines.{read_of, first_read, behind_line}
use Rattle.ic_lines.proofs.Cuts.{stops_take, read_first, line_is_first, line_read}
use Rattle.ic_lines.proofs.memory_lines.MemLines.take.Goals as goal

pub returns-clause-read : goal.returns-clause-read
returns-clause-read c =
    let line = c.first_line-line in
    let cut : c.min.result < length line.result.now → c.min.result ≡ c.args.limit + 1 = λ less. search rules in
    c.read_of.ensures.read ∙ ap (read_of c.args.limit) c.in_ok-front.ensures.items
    ∙ read_first c.args.limit c.min.result line.result.now c.left.result.now line.ensures.front line.ensures.stops line.ensures.ends line.ensures.some cut
    ∙ ap (first_read c.args.limit) c.left.ensures

pub returns-clause-rest : goal.returns-clause-rest
returns-clause-rest c =
    let line = c.first_line-line in
    let cut = line_is_first line.result.now c.left.result.now line.ensures.front line.ensures.stops line.ensures.ends line.ensures.some in
    let is : c.left.result.now ≡ drop c.self.inside.taken c.self.inside.text.items = search rules in
    sym (ap behind_line (sym c.left.ensures) ∙ cut.1 ∙ ap (drop (length line.result.now)) is ∙ drop-drop (length line.result.now) c.self.inside.taken c.self.inside.text.items)

pub returns-clause-line : goal.returns-clause-line
returns-clause-line c =
    let front = stops_take c.min.result c.first_line-line.result.now c.first_line-line.ensures.stops in
    line_read c.args.limit c.in_ok-front.front.items _ (subst (λ l. StopsAt l 10) (sym c.in_ok-front.ensures.items) front) c.read_of.ensures.read
