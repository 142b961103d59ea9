use Rattle.std.proofs.Common.{ap, refl, ◌∷◌, List}
use Rattle.def_syntax.specs.Lines.{Line, body_lines, On, Txn}
use Rattle.ic_syntax.specs.declared.handler_builder.OpenBlock.TheVariants.{Part}
use Rattle.ic_syntax.proofs.Lines.{opened}
use Rattle.ic_syntax.proofs.handler_builder.HandlerBuilder.with_txn.Goals as goal

pub returns-clause-lines : goal.returns-clause-lines
returns-clause-lines c =
    let s = c.args.self in
    ap (λ (ls : List Line). On s.name s.params ∷ ls) (opened s.outer.items c.push.new.self.items (Part s.body c.args.t) (body_lines s.body.items) c.new.result.items (Txn c.args.t) c.in_ok-push.ensures.items c.new.ensures.items refl)
