use Rattle.std.proofs.Common.{◌≡◌, ◌∷◌, ◌++◌, [], List, ap}
use Rattle.def_syntax.specs.Lines.{Line, body_lines, On, End}
use Rattle.ic_syntax.proofs.Lines.{closed_lines}
use Rattle.ic_syntax.proofs.handler_builder.HandlerBuilder.with_end.Goals as goal

pub returns-clause-lines : goal.returns-clause-lines
returns-clause-lines c =
    let s = c.args.self in
    let popped : s.outer.items ≡ c.pop.new.self.items ++ c.in-Some.inner ∷ [] = c.in-Some.ensures.items in
    ap (λ (ls : List Line). On s.name s.params ∷ ls)
    (closed_lines s.outer.items c.pop.new.self.items c.in-Some.inner (body_lines s.body.items) (body_lines c.in_ok-before.before.items) End popped c.in_ok-before.ensures)
