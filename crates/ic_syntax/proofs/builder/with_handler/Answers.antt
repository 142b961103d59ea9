use Rattle.std.proofs.Common.{◌∷◌, ◌++◌, List, ap, map}
use Rattle.def_syntax.specs.Lines.{Line, Head, Var, Key, handler_lines}
use Rattle.ic_syntax.proofs.Lines.{joined_more}
use Rattle.ic_syntax.proofs.builder.with_handler.Goals as goal

pub returns-clause-lines : goal.returns-clause-lines
returns-clause-lines c =
    let o = c.args.current in
    ap (λ (ls : List Line). Head o.name o.kind o.immediate ∷ ls)
    (joined_more handler_lines (map (λ x. Var x.0 x.1) o.vars ++ map (λ x. Key x.0 x.1) o.keys) o.handlers c.push.new.self c.args.handler c.in_ok-push.ensures.ok)
