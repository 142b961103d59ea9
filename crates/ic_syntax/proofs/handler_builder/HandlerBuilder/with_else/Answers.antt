use Rattle.std.proofs.Common.{◌≡◌, ◌∷◌, ◌++◌, [], List, ap}
use Rattle.def_syntax.specs.Lines.{Line, body_lines, On, Else}
use Rattle.ic_syntax.proofs.Lines.{turned_lines}
use Rattle.ic_syntax.proofs.handler_builder.HandlerBuilder.with_else.Goals as goal

pub returns-clause-lines : goal.returns-clause-lines
returns-clause-lines c =
    let s = c.args.self in
    let popped : s.outer.items ≡ c.pop.new.self.items ++ c.in-Some.inner ∷ [] = c.in-Some.ensures.items in
    ap (λ (ls : List Line). On s.name s.params ∷ ls)
    (turned_lines s.outer.items c.pop.new.self.items c.push.new.self.items c.in-Some.inner c.turned-other.result (body_lines s.body.items) c.new.result.items Else popped c.in_ok-push.ensures.items c.new.ensures.items c.turned-other.ensures.lines)
