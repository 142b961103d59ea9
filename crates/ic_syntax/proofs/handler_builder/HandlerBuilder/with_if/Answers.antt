use Rattle.std.proofs.Common.{ap, refl, ◌∷◌, List}
use Rattle.def_syntax.specs.Lines.{Line, body_lines, On, If}
use Rattle.ic_syntax.specs.declared.handler_builder.OpenBlock.TheVariants.{Then}
use Rattle.ic_syntax.proofs.Lines.{opened}
use Rattle.ic_syntax.proofs.handler_builder.HandlerBuilder.with_if.Goals as goal

pub returns-clause-lines : goal.returns-clause-lines
returns-clause-lines c =
    let s = c.args.self in
    ap (λ (ls : List Line). On s.name s.params ∷ ls) (opened s.outer.items c.push.new.self.items (Then s.body c.args.e) (body_lines s.body.items) c.new.result.items (If c.args.e) c.in_ok-push.ensures.items c.new.ensures.items refl)
